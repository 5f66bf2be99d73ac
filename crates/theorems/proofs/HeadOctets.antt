-- The octets that the rules write before the body: each head has one run of them, and a head without utf-16 those of the writer's definition. And a head without a presence bit lists nothing.
use Prim.Native.Nat.{ℕ, zero, suc, ◌/◌, ◌%◌, ◌<◌}
use mathlib.Core.Path.{◌≡◌, refl, sym, ap, ap₂, ◌∙◌, subst}
use mathlib.Core.Bool.{Bool, true, false}
use mathlib.Core.List.{List, [], ◌∷◌, ◌++◌, append_assoc}
use native.Mathlib.Omega.{arith}
use borrow.Author.Tests.{ne_eqb}
use lib.ListN.{length, length-append}
use Rattle.format.specs.Octets.{Octets}
use Rattle.format.specs.Numbers.{pick, spell, lengths, c21, from_bits}
use Rattle.format.specs.Tables.{StringTable, NameTable, Triple, Vocabulary, strings, names, no_entries, Version, Entry, first, later}
use Rattle.format.specs.Strings.{with_length, in_format, id_spelled, literal_spelled}
use Rattle.format.specs.Forms.{Spelled}
use Rattle.format.specs.declared.StringForm.{StringForm}
use Rattle.format.specs.declared.StringForm.TheVariants.{Utf8, Utf16, Numeric, Dates, Short, Int, Long}
use Rattle.format.specs.Head.{Listed, Head, Table, of_strings, of_names, ten_tables, is_identifying, c19, size_of, some?, presence, StringListed, an_identifying, another, PartListed, no_part, a_part, NameListed, a_surrogate}
use Rattle.format.specs.Head.{Each, no_entry, an_entry, Entries, TablesListed, no_table, absent, present, Opens, without_head, with_head, started}
use Rattle.format.specs.Allowed.{All}
use Rattle.forms.specs.Packing.{in_form}
use Rattle.forms.proofs.Forms.{one_spelling, spelled_letters, spelled_integers}
use Rattle.tables.proofs.Found.{clash}
use Rattle.write_names.specs.Choices.{field_in}
use Rattle.write_head.specs.Head.{entry_octets, part_octets, name_octets, joined_by, count_octets, table_octets, is_none, octets_before}
use Rattle.theorems.proofs.Lists.{either}
use Rattle.theorems.proofs.Alls.{all_entry}
use Rattle.theorems.proofs.TenTables.{no_list}

-- ---- no bit is 1 only if nothing is listed
some_none : (n : ℕ) → some? n ≡ 0 → n ≡ 0
some_none zero e = refl
some_none (suc n) e = absurd (omega arith)

pub nothing-listed : {S : Type 0} (h : Vocabulary S) → presence h ten_tables ≡ 0 → h ≡ no_entries
unfolding presence ten_tables size_of from_bits no_entries strings names
nothing-listed h e =
    λ i. record {
      prefixes = none h.prefixes (omega arith) i;
      namespaces = none h.namespaces (omega arith) i;
      locals = none h.locals (omega arith) i;
      ncnames = none h.ncnames (omega arith) i;
      uris = none h.uris (omega arith) i;
      values = none h.values (omega arith) i;
      chunks = none h.chunks (omega arith) i;
      others = none h.others (omega arith) i;
      elements = none h.elements (omega arith) i;
      attributes = none h.attributes (omega arith) i;
    }
  where
    none : {A : Type 0} (l : List A) → some? (length l) ≡ 0 → l ≡ []
    none l z = no_list l (some_none (length l) z)

pub nothing_present : (S : Type 0) → presence (no_entries {S = S} {N = Triple}) ten_tables ≡ 0
unfolding presence ten_tables size_of from_bits no_entries strings names
nothing_present S = refl

-- ---- the octets
counted : (n : ℕ) → 0 < n → spell c21 0 n ≡ count_octets n
counted zero h = absurd (omega arith)
counted (suc n) h = refl

-- a table that lists no entry
no_octets : (h : Head) (t : Table) → size_of h t ≡ 0 → table_octets h t ≡ []
unfolding size_of table_octets joined_by
no_octets h (of_strings t) e = from (strings h t) e
  where
    from : (l : List Listed) → length l ≡ 0 → count_octets (length l) ++ joined_by (entry_octets t) l ≡ []
    from [] e = refl
    from (x ∷ l) e = absurd (omega arith)
no_octets h (of_names t) e = from (names h t) e
  where
    from : (l : List Triple) → length l ≡ 0 → count_octets (length l) ++ joined_by name_octets l ≡ []
    from [] e = refl
    from (x ∷ l) e = absurd (omega arith)

-- ---- a string's octets: in a table of identifying strings its length and itself, in another the field of its form
abbrev FieldOf : (identifying : Bool) → Listed → Octets → Type 0
FieldOf true x o = o ≡ with_length (lengths 2) 0 x.says
FieldOf false x o = (y : Octets) × Spelled x.form x.says y × (o ≡ in_format c19.length_bit x.form 0 y)

one_field : (b : Bool) (x : Listed) (o p : Octets) → FieldOf b x o → FieldOf b x p → o ≡ p
one_field true x o p f g = f ∙ sym g
one_field false x o p f g = f.2 ∙ ap (in_format c19.length_bit x.form 0) (one_spelling x.form x.says f.0 g.0 f.1 g.1) ∙ sym g.2

-- the writer never uses utf-16; in the other forms its octets are the only ones
abbrev pub NoUtf16 : Head → Type 0
NoUtf16 h = (t : StringTable) → All (λ (x : Listed). x.form ≡ Utf16 → ⊥) (strings h t)

in_form_lem : (form : StringForm) (x y : Octets) → (form ≡ Utf16 → ⊥) → Spelled form x y → y ≡ in_form form x
in_form_lem Utf8 x y n s = s.1
in_form_lem Utf16 x y n s = absurd (n refl)
in_form_lem Numeric x y n s = (spelled_letters Numeric x y tt s).1
in_form_lem Dates x y n s = (spelled_letters Dates x y tt s).1
in_form_lem Short x y n s = (spelled_integers Short x (omega arith) y s).1
in_form_lem Int x y n s = (spelled_integers Int x (omega arith) y s).1
in_form_lem Long x y n s = (spelled_integers Long x (omega arith) y s).1

own_field : (b : Bool) (x : Listed) (o : Octets) → (x.form ≡ Utf16 → ⊥) → FieldOf b x o → o ≡ pick b (with_length (lengths 2) 0 x.says) (field_in c19.length_bit x.form 0 x.says)
unfolding field_in
own_field true x o n f = f
own_field false x o n f = f.2 ∙ ap (in_format c19.length_bit x.form 0) (in_form_lem x.form x.says f.0 n f.1)

module _ {ver : Version} where
  -- ---- an entry
  string_field : {t : StringTable} {v : Vocabulary Octets} {x : Listed} {o : Octets} {w : Vocabulary Octets} → StringListed ver t v x o w → (b : Bool) → is_identifying t ≡ b → FieldOf b x o
  unfolding c19
  string_field (an_identifying i (id_spelled s n f)) true e = refl
  string_field (an_identifying i (id_spelled s n f)) false e = clash (sym e ∙ i)
  string_field (another i (literal_spelled s f)) true e = clash (sym i ∙ e)
  string_field (another i (literal_spelled {y = y} s f)) false e = (y, s.formed, refl)

  one_string : {t : StringTable} {u v w z : Vocabulary Octets} {x : Listed} {o p : Octets} → StringListed ver t v x o w → StringListed ver t u x p z → o ≡ p
  one_string {t} {x = x} {o = o} {p = p} r q = one_field (is_identifying t) x o p (string_field r (is_identifying t) refl) (string_field q (is_identifying t) refl)

  string_octets_lem : {t : StringTable} {v w : Vocabulary Octets} {x : Listed} {o : Octets} → (x.form ≡ Utf16 → ⊥) → StringListed ver t v x o w → o ≡ entry_octets t x
  unfolding entry_octets
  string_octets_lem {t} {x = x} {o = o} n r = own_field (is_identifying t) x o n (string_field r (is_identifying t) refl)

  part-octets : {n k : ℕ} {o : Octets} → PartListed ver n k o → o ≡ part_octets k
  part-octets no_part = refl
  part-octets (a_part h i) = refl

  name_octets_lem : {t : NameTable} {v w : Vocabulary Octets} {x : Triple} {o : Octets} → NameListed ver t v x o w → o ≡ name_octets x
  unfolding name_octets
  name_octets_lem (a_surrogate s h p n l new few) = rw (part-octets p, part-octets n, part-octets l)

  -- ---- a table
  each-octets : {A : Type 0} {Listed : Vocabulary Octets → A → Octets → Vocabulary Octets → Type 0} {v w : Vocabulary Octets} {xs : List A} {o : Octets} (f : A → Octets)
      → ((k : ℕ) (v : Vocabulary Octets) (x : A) (o : Octets) (w : Vocabulary Octets) → Entry xs k x → Listed v x o w → o ≡ f x) → Each ver Listed v xs o w → o ≡ joined_by f xs
  unfolding joined_by
  each-octets f own no_entry = refl
  each-octets f own (an_entry r rs) = ap₂ (λ (a b : Octets). a ++ b) (own 0 _ _ _ _ first r) (each-octets f (λ k v x o w e q. own (suc k) v x o w (later e) q) rs)

  one_each : {A : Type 0} {Listed : Vocabulary Octets → A → Octets → Vocabulary Octets → Type 0} {u v w z : Vocabulary Octets} {xs : List A} {o p : Octets}
      → ((u v : Vocabulary Octets) (x : A) (o p : Octets) (w z : Vocabulary Octets) → Listed v x o w → Listed u x p z → o ≡ p) → Each ver Listed v xs o w → Each ver Listed u xs p z → o ≡ p
  one_each own no_entry no_entry = refl
  one_each own (an_entry r rs) (an_entry q qs) = ap₂ (λ (a b : Octets). a ++ b) (own _ _ _ _ _ _ _ r q) (one_each own rs qs)

module _ (ver : Version) (h : Head) where
  -- if it lists any, how many, and these
  table_octets_lem : NoUtf16 h → (t : Table) (v w : Vocabulary Octets) (o : Octets) → 0 < size_of h t → Entries ver h t v o w → spell c21 0 (size_of h t) ++ o ≡ table_octets h t
  unfolding size_of table_octets
  table_octets_lem n (of_strings t) v w o some r =
      ap₂ (λ (a b : Octets). a ++ b) (counted (length (strings h t)) some) (each-octets (entry_octets t) (λ k v x o w e q. string_octets_lem (all_entry (λ (x : Listed). x.form ≡ Utf16 → ⊥) (n t) e) q) r)
  table_octets_lem n (of_names t) v w o some r = ap₂ (λ (a b : Octets). a ++ b) (counted (length (names h t)) some) (each-octets name_octets (λ k v x o w e q. name_octets_lem q) r)

  one_table : (t : Table) (u v w z : Vocabulary Octets) (o p : Octets) → Entries ver h t v o w → Entries ver h t u p z → o ≡ p
  one_table (of_strings t) u v w z o p r q = one_each (λ u v x o p w z a b. one_string a b) r q
  one_table (of_names t) u v w z o p r q = one_each (λ u v x o p w z a b. name_octets_lem a ∙ sym (name_octets_lem b)) r q

module _ {ver : Version} where
  -- ---- the tables, and the whole
  listed-octets : {h : Head} {ts : List Table} {v w : Vocabulary Octets} {o : Octets} → NoUtf16 h → TablesListed ver h ts v o w → o ≡ joined_by (table_octets h) ts
  unfolding joined_by
  listed-octets n no_table = refl
  listed-octets {h} n (absent {t = t} {ts = ts} e r) = listed-octets n r ∙ sym (ap (λ (l : Octets). l ++ joined_by (table_octets h) ts) (no_octets h t e))
  listed-octets {h} n (present {t = t} o {os = os} some few r rs) =
      sym (append_assoc (spell c21 0 (size_of h t)) o os) ∙ ap₂ (λ (a b : Octets). a ++ b) (table_octets_lem ver h n t _ _ o some r) (listed-octets n rs)

  one_listed : {h : Head} {ts : List Table} {u v w z : Vocabulary Octets} {o p : Octets} → TablesListed ver h ts v o w → TablesListed ver h ts u p z → o ≡ p
  one_listed no_table no_table = refl
  one_listed (absent e r) (absent f q) = one_listed r q
  one_listed (absent e r) (present p some few q qs) = absurd (omega arith)
  one_listed (present o some few r rs) (absent e q) = absurd (omega arith)
  one_listed {h} (present {t = t} o some few r rs) (present p any few₁ q qs) =
      ap₂ (λ (a b : Octets). spell c21 0 (size_of h t) ++ (a ++ b)) (one_table ver h t _ _ _ _ o p r q) (one_listed rs qs)

  -- What stands before the body is what the writer's definition gives; and in any forms it is one run of octets.
  pub opens-octets : {h : Head} {o : Octets} {w : Vocabulary Octets} → NoUtf16 h → Opens ver h o w → o ≡ octets_before ver h
  unfolding octets_before is_none
  opens-octets n without_head = rw (nothing_present Listed)
  opens-octets {h} n (with_head v some r) = rw (ne_eqb (presence h ten_tables) 0 (λ e. omega arith), listed-octets n r)

  pub one_opening : {h : Head} {o p : Octets} {v w : Vocabulary Octets} → Opens ver h o v → Opens ver h p w → o ≡ p
  one_opening a b = from a b refl
    where
      from : {h g : Head} {o p : Octets} {v w : Vocabulary Octets} → Opens ver h o v → Opens ver g p w → h ≡ g → o ≡ p
      from without_head without_head e = refl
      from without_head (with_head heads any u) e = absurd (let z = nothing_present Listed in let some = rw (← e) at any in omega arith)
      from (with_head heads any u) without_head e = absurd (let z = nothing_present Listed in let some = rw e at any in omega arith)
      from {h} {w = w} (with_head heads any u) (with_head {h = g} {o = p} heads₁ any₁ y) e =
          ap (λ (l : Octets). ver.identification ++ (0x20 ∷ presence h ten_tables / 256 ∷ presence h ten_tables % 256 ∷ l))
          (one_listed u (subst (λ (f : Head). TablesListed ver f ten_tables (started ver) p w) (sym e) y))
          ∙ ap (λ (f : Head). ver.identification ++ (0x20 ∷ presence f ten_tables / 256 ∷ presence f ten_tables % 256 ∷ p)) e

-- There are some.
pub octets_some : (ver : Version) (h : Head) → 0 < length (octets_before ver h)
unfolding octets_before
octets_some ver h =
    let tables : Octets = 0x20 ∷ presence h ten_tables / 256 ∷ presence h ten_tables % 256 ∷ joined_by (table_octets h) ten_tables in
    either (λ (o : Octets). 0 < length (ver.identification ++ o)) (is_none h) (0x00 ∷ []) tables
    (λ e. let l = length-append ver.identification (0x00 ∷ []) in omega arith)
    (λ e. let l = length-append ver.identification tables in omega arith)
