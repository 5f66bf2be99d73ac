-- The acts of what is written use every number of its choices, and after each item the tables hold what the acts up to it made.
use Prim.Native.Nat.{ℕ}
use mathlib.Core.Path.{◌≡◌, refl, sym, ap, ap₂, ◌∙◌, subst}
use mathlib.Core.Bool.{true, false}
use mathlib.Core.Option.{Option}
use mathlib.Core.List.{List, [], ◌∷◌, ◌++◌, append-nil}
use Rattle.format.specs.Octets.{Octets, Halves}
use Rattle.format.specs.Events.{Name, How, NameHow, Item}
use Rattle.format.specs.Tables.{StringTable, PREFIX, NAMESPACE_NAME, LOCAL_NAME, OTHER_NCNAME, ATTRIBUTE_VALUE, CONTENT_CHARACTER_CHUNK, OTHER_STRING, NameTable, ELEMENT_NAME, ATTRIBUTE_NAME, Tables, Vocabulary, Version}
use Rattle.format.specs.Items.{State}
use Rattle.format.specs.Document.{Written, document_end_lem, attributes_end, element_end, item, known_after, beginning, Document}
use Rattle.format.specs.Uses.{Act, makes, uses, makes_name, uses_name, of_string, of_option, of_name, of_item, acts, Holds}
use Rattle.format.specs.Head.{Head}
use Rattle.theorems.specs.Heads.{headed}
use Rattle.theorems.specs.Acts.{number_in, number_if_any, numbers_in_name, numbers_in, all_numbers, used, HoldAfter}
use Rattle.theorems.proofs.Effects.{IdDone, id_made, id_used, PartDone, no_part, a_part, StringDone, string_made, string_used, ValueDone, empty_value, a_value, NameDone, name_made, name_used}
use Rattle.theorems.proofs.Effects.{ItemDone, done_namespace, done_start, done_attribute, done_text, done_comment, done_instruction, done_end, Done, no_item, an_item, octets_done, document_done}
use Rattle.theorems.proofs.Earlier.{item_does}
use Rattle.theorems.proofs.Heads.{opened_is}

used_append : {S : Type 0} (a b : List (Act S)) → used (a ++ b) ≡ used a ++ used b
used_append [] b = refl
used_append (makes t x ∷ a) b = used_append a b
used_append (uses t k x ∷ a) b = rw (used_append a b)
used_append (makes_name t x ∷ a) b = used_append a b
used_append (uses_name t k x ∷ a) b = rw (used_append a b)

-- one part, and two, one behind the other
alone : {S : Type 0} (a : List (Act S)) {m : List ℕ} → used a ≡ m → used (a ++ []) ≡ m
alone a p = ap used (append-nil a) ∙ p

both : {S : Type 0} (a b : List (Act S)) {m n : List ℕ} → used a ≡ m → used b ≡ n → used (a ++ b) ≡ m ++ n
both a b p q = used_append a b ∙ ap₂ (λ (x y : List ℕ). x ++ y) p q

module _ {S : Type 0} {d : S} {Spelt : StringTable → S → Type 0} where
  id_numbers : {t : StringTable} {v : Vocabulary S} {x : S} {h : How} {n : ℕ} {w : Vocabulary S} → IdDone d Spelt t v x h n w → used (of_string t x h) ≡ number_in h
  id_numbers (id_made sp) = refl
  id_numbers (id_used en) = refl

  part-numbers : {t : StringTable} {v w : Vocabulary S} {x : Option S} {h : Option How} {n : ℕ} → PartDone d Spelt t v x h n w → used (of_option t x h) ≡ number_if_any h
  part-numbers no_part = refl
  part-numbers (a_part u) = id_numbers u

  string_numbers : {t : StringTable} {v : Vocabulary S} {x : S} {h : How} {w : Vocabulary S} → StringDone d Spelt t v x h w → used (of_string t x h) ≡ number_in h
  string_numbers (string_made true sp) = refl
  string_numbers (string_made false sp) = refl
  string_numbers (string_used en) = refl

  value_numbers : {t : StringTable} {v w : Vocabulary S} {x : S} {h : How} → ValueDone d Spelt t v x h w → used (of_string t x h) ≡ number_in h
  value_numbers empty_value = refl
  value_numbers (a_value u) = string_numbers u

  name_numbers : {t : NameTable} {v w : Vocabulary S} {x : Name S} {h : NameHow} → NameDone d Spelt t v x h w → used (of_name t x h) ≡ numbers_in_name h
  name_numbers {t} (name_made {p = p} {n = n} {l = l} {hp = hp} {hn = hn} {hl = hl} lone up un ul) =
      let made : List (Act S) = makes_name t (record { prefix = p; namespace = n; local = l }) ∷ [] in
      both (of_option PREFIX p hp) (of_option NAMESPACE_NAME n hn ++ (of_string LOCAL_NAME l hl ++ made)) (part-numbers up)
      (both (of_option NAMESPACE_NAME n hn) (of_string LOCAL_NAME l hl ++ made) (part-numbers un) (both (of_string LOCAL_NAME l hl) made (id_numbers ul) refl ∙ append-nil (number_in hl)))
  name_numbers (name_used en) = refl

  item_numbers : {v w : Vocabulary S} {i : Item S} → ItemDone d Spelt v i w → used (of_item i) ≡ numbers_in i.choice
  item_numbers (done_namespace {p = p} {n = n} {hp = hp} {hn = hn} up un) =
      both (of_option PREFIX p hp) (of_option NAMESPACE_NAME n hn ++ []) (part-numbers up) (alone (of_option NAMESPACE_NAME n hn) (part-numbers un))
  item_numbers (done_start {x = x} {h = h} u) = alone (of_name ELEMENT_NAME x h) (name_numbers u)
  item_numbers (done_attribute {x = x} {y = y} {h = h} {g = g} u1 u2) =
      both (of_name ATTRIBUTE_NAME x h) (of_string ATTRIBUTE_VALUE y g ++ []) (name_numbers u1) (alone (of_string ATTRIBUTE_VALUE y g) (value_numbers u2))
  item_numbers (done_text {y = y} {h = h} u) = alone (of_string CONTENT_CHARACTER_CHUNK y h) (string_numbers u)
  item_numbers (done_comment {y = y} {h = h} u) = alone (of_string OTHER_STRING y h) (value_numbers u)
  item_numbers (done_instruction {x = x} {y = y} {h = h} {g = g} u1 u2) =
      both (of_string OTHER_NCNAME x h) (of_string OTHER_STRING y g ++ []) (id_numbers u1) (alone (of_string OTHER_STRING y g) (value_numbers u2))
  item_numbers done_end = refl

  all_numbers_lem : {v z : Vocabulary S} {items : List (Item S)} → Done d Spelt v items z → used (acts items) ≡ all_numbers items
  all_numbers_lem no_item = refl
  all_numbers_lem (an_item {i = i} {items = items} u r) = both (of_item i) (acts items) (item_numbers u) (all_numbers_lem r)

pub every-number : (ver : Version) (h : Head) (items : List (Item Octets)) (z : State Octets) (s : Octets) → Document ver h items z s → used (acts items) ≡ all_numbers items
every-number ver h items z s w = all_numbers_lem (document_done w)

module _ (ver : Version) where
  hold_after : {at : ℕ} {v z : State Octets} {items : List (Item Octets)} {hs : Halves} (r : Written ver at v items hs z) (t : Tables Octets (Name Octets)) → Holds v.tables t → HoldAfter t items (known_after ver r)
  unfolding known_after
  hold_after (document_end_lem md lv rt) t h = tt
  hold_after (attributes_end md r) t h = hold_after r t h
  hold_after (element_end md lv r) t h = (h, hold_after r t h)
  hold_after (item u r) t h = let g = (item_does (octets_done u)).then t h in (g, hold_after r _ g)

  pub tables_after : (h : Head) (items : List (Item Octets)) (z : State Octets) (s : Octets) (w : Document ver h items z s) (begins : Tables Octets (Name Octets)) → Holds (headed ver h) begins
      → HoldAfter begins items (known_after ver w.rule)
  unfolding beginning
  tables_after h items z s w begins a = hold_after w.rule begins (subst (λ (v : Vocabulary Octets). Holds v begins) (sym (opened_is w.opens)) a)
