-- Numbers name what was made earlier: every number in the choices of a written document, save the 0 of the empty string, is that of an entry which the tables
-- have at its start or which was made before it, and what that entry holds is what the event says; and the tables at the end hold what was made, and nothing else.
use Prim.Native.Nat.{ℕ, suc}
use mathlib.Core.Path.{◌≡◌, refl, sym, ap, ◌∙◌, subst}
use mathlib.Core.Bool.{Bool, true, false}
use mathlib.Core.Option.{Option}
use mathlib.Core.List.{List, [], ◌∷◌, ◌++◌, append_assoc, append-nil}
use lib.Dec.{eqb}
use Rattle.format.specs.Events.{Name, How, NameHow, Item}
use Rattle.format.specs.Tables.{StringTable}
use Rattle.format.specs.Tables.{NameTable, Triple, Tables, Vocabulary, strings, names, adding, adding_name, Entry, first, later, an_entry, Means}
use Rattle.format.specs.Uses.{Act, makes, uses, makes_name, uses_name, of_string, of_option, of_name, of_item, acts, after, Known, AllMean, no_triple_lem, a_triple, Holds}
use Rattle.tables.specs.Rows.{place}
use Rattle.tables.proofs.Adding.{extended, same_names, strings-adding, names-adding, strings-adding_name, names-adding_name}
use Rattle.read_names.specs.Names.{name_of}
use Rattle.theorems.proofs.Triples.{means_is}
use Rattle.theorems.proofs.Effects.{IdDone, id_made, id_used, PartDone, no_part, a_part, StringDone, string_made, string_used, ValueDone, empty_value, a_value, NameDone, name_made, name_used}
use Rattle.theorems.proofs.Effects.{ItemDone, done_namespace, done_start, done_attribute, done_text, done_comment, done_instruction, done_end, Done, no_item, an_item}
use Rattle.theorems.proofs.Growing.{Keeps, keeps-adding, keeps-adding_name, means_kept, parts_mean}

-- ---- the triples of a table name these names
module _ {S : Type 0} where
  all_kept : {v w : Vocabulary S} {l : List Triple} {n : List (Name S)} → Keeps v w → AllMean v l n → AllMean w l n
  all_kept g no_triple_lem = no_triple_lem
  all_kept g (a_triple m r) = a_triple (means_kept g m) (all_kept g r)

  all_last : {v : Vocabulary S} {l : List Triple} {n : List (Name S)} {x : Triple} {y : Name S} → Means v x y → AllMean v l n → AllMean v (l ++ (x ∷ [])) (n ++ (y ∷ []))
  all_last m no_triple_lem = a_triple m no_triple_lem
  all_last m (a_triple m' r) = a_triple m' (all_last m r)

  all_extended : {v : Vocabulary S} {l : List Triple} {n : List (Name S)} {x : Triple} {y : Name S} (b : Bool) → Means v x y → AllMean v l n → AllMean v (extended b l x) (extended b n y)
  all_extended true m r = all_last m r
  all_extended false m r = r

  all_entry : {v : Vocabulary S} {l : List Triple} {n : List (Name S)} {k : ℕ} {x : Triple} (d : S) → AllMean v l n → Entry l k x → Entry n k (name_of v d x)
  all_entry {v = v} {k = k} d no_triple_lem e = elim e [ ]
  all_entry d (a_triple m r) first = rw (means_is d m) first
  all_entry d (a_triple m r) (later e) = later (all_entry d r e)

-- ---- the same strings
abbrev Same : {S N M : Type 0} → Tables S N → Tables S M → Type 0
Same v y = (t : StringTable) → strings v t ≡ strings y t

module _ {S N M : Type 0} (v : Tables S N) (y : Tables S M) (same : Same v y) where
  same-adding : (t : StringTable) (x : S) → Same (adding v t x) (adding y t x)
  same-adding t x u = strings-adding v t x u ∙ ap (λ (l : List S). extended (eqb (place t) (place u)) l x) (same u) ∙ sym (strings-adding y t x u)

  same-adding_name : (t : NameTable) (a : N) (b : M) → Same (adding_name v t a) (adding_name y t b)
  same-adding_name t a b u = strings-adding_name v t a u ∙ same u ∙ sym (strings-adding_name y t b u)

after_both : {S : Type 0} (y : Tables S (Name S)) (l m : List (Act S)) → after y (l ++ m) ≡ after (after y l) m
after_both y [] m = refl
after_both y (makes t x ∷ l) m = after_both (adding y t x) l m
after_both y (uses t k x ∷ l) m = after_both y l m
after_both y (makes_name t x ∷ l) m = after_both (adding_name y t x) l m
after_both y (uses_name t k x ∷ l) m = after_both y l m

-- ---- the strings that acts add: w has what v has and, behind it, what they make
pub record Adds {S : Type 0} (v : Vocabulary S) (l : List (Act S)) (w : Vocabulary S) : Type 0 where
  pub then : (y : Tables S (Name S)) → Same v y → Same w (after y l)

module _ {S : Type 0} where
  pub adds_none : {v : Vocabulary S} → Adds v [] v
  adds_none = record { then = λ y a. a }

  pub adds_both : {v w z : Vocabulary S} {l m : List (Act S)} → Adds v l w → Adds w m z → Adds v (l ++ m) z
  adds_both {l = l} {m = m} f g = record { then = λ y a. rw (after_both y l m) (g.then (after y l) (f.then y a)) }

  pub adds_string : (v : Vocabulary S) (t : StringTable) (x : S) → Adds v (makes t x ∷ []) (adding v t x)
  adds_string v t x = record { then = λ y a. same-adding v y a t x }

  pub adds_name : (v : Vocabulary S) (t : NameTable) (x : Triple) (y : Name S) → Adds v (makes_name t y ∷ []) (adding_name v t x)
  adds_name v t x y = record { then = λ z a. same-adding_name v z a t x y }

  -- a number adds nothing
  pub adds_number : {v : Vocabulary S} (t : StringTable) (k : ℕ) (x : S) → Adds v (uses t k x ∷ []) v
  adds_number t k x = record { then = λ y a. a }

  pub adds_name_number : {v : Vocabulary S} (t : NameTable) (k : ℕ) (x : Name S) → Adds v (uses_name t k x ∷ []) v
  adds_name_number t k x = record { then = λ y a. a }

-- ---- these acts lead from v to w: they use what is there, and what they make is what w has more
pub record Does {S : Type 0} (v : Vocabulary S) (l : List (Act S)) (w : Vocabulary S) : Type 0 where
  known : (y : Tables S (Name S)) → Holds v y → (rest : List (Act S)) → Known (after y l) rest → Known y (l ++ rest)
  pub then : (y : Tables S (Name S)) → Holds v y → Holds w (after y l)

module _ {S : Type 0} where
  both : {v w z : Vocabulary S} {l m : List (Act S)} → Does v l w → Does w m z → Does v (l ++ m) z
  both {l = l} {m = m} f g =
      record {
        known = λ y a rest k. rw (append_assoc l m rest) (f.known y a (m ++ rest) (g.known (after y l) (f.then y a) rest (rw (after_both y l m) at k)));
        then = λ y a. rw (after_both y l m) (g.then (after y l) (f.then y a));
      }

  none_done : {v : Vocabulary S} → Does v [] v
  none_done = record { known = λ y a rest k. k; then = λ y a. a }

  uses_string : {v : Vocabulary S} {t : StringTable} {k : ℕ} {x : S} → Entry (strings v t) k x → Does v (uses t (suc k) x ∷ []) v
  uses_string {t = t} e = record { known = λ y a rest k. (an_entry (rw (a.strings_are_lem t) at e), k); then = λ y a. a }

  uses_name_lem : {v : Vocabulary S} {t : NameTable} {k : ℕ} {x : Triple} (d : S) → Entry (names v t) k x → Does v (uses_name t (suc k) (name_of v d x) ∷ []) v
  uses_name_lem {t = t} d e = record { known = λ y a rest k. (an_entry (all_entry d (a.names_are_lem t) e), k); then = λ y a. a }

  makes_string : (v : Vocabulary S) (t : StringTable) (x : S) → Does v (makes t x ∷ []) (adding v t x)
  makes_string v t x =
      record {
        known = λ y a rest k. k;
        then = λ y a.
            record {
              strings_are_lem = same-adding v y a.strings_are_lem t x;
              names_are_lem = λ u. rw (names-adding v t x u, names-adding y t x u) (all_kept (keeps-adding v t x) (a.names_are_lem u));
            };
      }

  makes_name_lem : (v : Vocabulary S) (t : NameTable) (x : Triple) (y : Name S) → Means v x y → Does v (makes_name t y ∷ []) (adding_name v t x)
  makes_name_lem v t x y m =
      let g = keeps-adding_name v t x in
      record {
        known = λ z a rest k. k;
        then = λ z a.
            record {
              strings_are_lem = same-adding_name v z a.strings_are_lem t x y;
              names_are_lem = λ u. rw (names-adding_name v t x u, names-adding_name z t y u) (all_extended (same_names t u) (means_kept g m) (all_kept g (a.names_are_lem u)));
            };
      }

module _ {S : Type 0} {d : S} {Spelt : StringTable → S → Type 0} where
  id_does : {t : StringTable} {v : Vocabulary S} {x : S} {h : How} {n : ℕ} {w : Vocabulary S} → IdDone d Spelt t v x h n w → Does v (of_string t x h) w
  id_does {t} {v} (id_made {x = x} sp) = makes_string v t x
  id_does (id_used en) = uses_string en

  part_does : {t : StringTable} {v w : Vocabulary S} {x : Option S} {h : Option How} {n : ℕ} → PartDone d Spelt t v x h n w → Does v (of_option t x h) w
  part_does no_part = none_done
  part_does (a_part u) = id_does u

  string_does : {t : StringTable} {v : Vocabulary S} {x : S} {h : How} {w : Vocabulary S} → StringDone d Spelt t v x h w → Does v (of_string t x h) w
  string_does {t} {v} (string_made {x = x} true sp) = makes_string v t x
  string_does (string_made false sp) = none_done
  string_does (string_used en) = uses_string en

  value_does : {t : StringTable} {v w : Vocabulary S} {x : S} {h : How} → ValueDone d Spelt t v x h w → Does v (of_string t x h) w
  value_does empty_value = none_done
  value_does (a_value u) = string_does u

  name_does : {t : NameTable} {v w : Vocabulary S} {x : Name S} {h : NameHow} → NameDone d Spelt t v x h w → Does v (of_name t x h) w
  name_does {t} (name_made {v₃ = v3} lone up un ul) = both (part_does up) (both (part_does un) (both (id_does ul) (makes_name_lem v3 t _ _ (parts_mean up un ul))))
  name_does (name_used en) = uses_name_lem d en

  pub item_does : {v w : Vocabulary S} {i : Item S} → ItemDone d Spelt v i w → Does v (of_item i) w
  item_does (done_namespace up un) = both (part_does up) (both (part_does un) none_done)
  item_does (done_start u) = both (name_does u) none_done
  item_does (done_attribute u1 u2) = both (name_does u1) (both (value_does u2) none_done)
  item_does (done_text u) = both (string_does u) none_done
  item_does (done_comment u) = both (value_does u) none_done
  item_does (done_instruction u1 u2) = both (id_does u1) (both (value_does u2) none_done)
  item_does done_end = none_done

  all_does : {v z : Vocabulary S} {items : List (Item S)} → Done d Spelt v items z → Does v (acts items) z
  all_does no_item = none_done
  all_does (an_item u r) = both (item_does u) (all_does r)

  -- from tables that are y with the names themselves
  pub earlier : {v z : Vocabulary S} {y : Tables S (Name S)} {items : List (Item S)} → Holds v y → Done d Spelt v items z → Known y (acts items)
  earlier {y = y} {items} a r = subst (Known y) (append-nil (acts items)) ((all_does r).known y a [] tt)

  -- and at the end what was made, behind that
  pub made : {v z : Vocabulary S} {y : Tables S (Name S)} {items : List (Item S)} → Holds v y → Done d Spelt v items z → Holds z (after y (acts items))
  made {y = y} a r = (all_does r).then y a
