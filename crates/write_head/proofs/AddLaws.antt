-- Given entries added to the tables: a law for each way out of the functions that add them, on plain values.
-- Assumes nothing.
use mathlib.Core.Path.{◌≡◌, refl, sym, ◌∙◌}
use mathlib.Core.Bool.{Bool, false, ◌||◌}
use mathlib.Core.List.{List, map}
use Rattle.std.proofs.Common.{Result}
use Rattle.std.specs.Result.{IsErrAnd}
use Rattle.std.proofs.lemmas.Result.{err_from_is_err_and}
use Prim.Native.Nat.{ℕ, ◌+◌, ◌*◌, ◌≤◌, ◌<◌}
use native.Mathlib.Omega.{arith}
use native.Mathlib.Numerals.{add-one}
use borrow.Author.Tests.{lt-ltb, le-ltb, le-leb, ne_eqb}
use lib.Dec.{eqb, leb}
use lib.ListN.{length, get_or, set}
use lib.Seq.{get_or-set_same, get_or-set_other}
use Rattle.format.specs.Tables.{Triple, strings, adding, adding_name}
use Rattle.format.specs.declared.StringForm.{StringForm}
use Rattle.format.specs.declared.StringForm.TheVariants.{Utf8}
use Rattle.format.specs.Forms.{form_number, form_of}
use Rattle.format.specs.declared.refusals.Refusal.{Refusal}
use Rattle.format.specs.declared.refusals.Refusal.TheVariants.{Repeat}
use Rattle.tables.specs.Located.{stretch, octets_of}
use Rattle.tables.specs.Rows.{table_of, string_at, triple_at, entries}
use Rattle.tables.specs.Search.{number_in, number_of_triple}
use Rattle.tables.specs.Kept.{name_table_of}
use Rattle.index.specs.Hash.{bucket}
use Rattle.index.specs.Indexed.{slots, NamesIndexed, StringEntered, NameEntered}
use Rattle.index.proofs.Counted.{count_at}
use Rattle.index.proofs.Ordered.{string_more, name_more}
use Rattle.events.specs.declared.EventString.{EventString}
use Rattle.events.specs.declared.EventString.TheVariants.{Absent, Empty, Stretch, XmlPrefix, XmlNamespace}
use Rattle.events.specs.Records.{located_of}
use Rattle.events.specs.Words.{string_form}
use Rattle.write_names.specs.Promises.{tables_in, InOrder, Suits, Spells, held_as}
use Rattle.write_names.proofs.Order.{triples_are, order_string, order_name}
use Rattle.write_names.proofs.Stretches.{tagged}
use Rattle.write_names.proofs.StringLaws.{held_is, enter_ready}
use Rattle.write_head.specs.Given.{rows_of}
use Rattle.write_head.specs.RowContracts.{form_given, located, start_count, IsRow, new_in, add_row, add_rows, add_tables, Grown, Tells}
use Rattle.write_head.proofs.RowLaws.{or_true, row_utf8, row_sound}
use Rattle.write_head.proofs.ListLaws.{and_true, or_false}

-- what `number_of` asks of an identifying string
pub spells_suits : (text : List ℕ) (t : ℕ) (x : EventString) → Spells text x → string_form x ≡ Utf8 → Suits text t x
spells_suits text t Absent s u = absurd s
spells_suits text t Empty s u = s
spells_suits text t (Stretch f p n) s u = (s.0, s.1, u)
spells_suits text t XmlPrefix s u = absurd s
spells_suits text t XmlNamespace s u = absurd s

module _ (text c w x : List ℕ) (t : ℕ) (order : InOrder text c w x) where
  pub names_indexed : 8 ≤ t → t < 10 → NamesIndexed w x t (get_or c t 0)
  names_indexed low high = let k = count_at c order.ten t in rw k at (order.indexed.of_names t low high refl)

  module _ (room : get_or c t 0 < 256) where
    pub grown_name : 8 ≤ t → t < 10 → (z : Triple) → (v iv : List ℕ) → NameEntered text t (get_or c t 0) z w x v iv
        → Grown text t 1 (adding_name (tables_in c w) (name_table_of t) z) c (set c t (get_or c t 0 + 1)) v iv
    grown_name low high z v iv e =
        let ten = order.ten in
        record {
          order = order_name text c w x t order room z low high v iv e;
          tables = rw e.words (name_more order t room z low high);
          here = get_or-set_same c t (get_or c t 0 + 1) 0 (omega arith);
          elsewhere = λ j ne. get_or-set_other c t j (get_or c t 0 + 1) 0 ne;
        }

-- the string in a row, in the form f
module _ (text g c w x : List ℕ) (t at : ℕ) (order : InOrder text c w x) (small : t < 8) (row : IsRow text g t at) (f : StringForm) (e : f ≡ form_given (get_or g at 0)) where
  abbrev string : EventString
  string = Stretch f (get_or g (at + 1) 0) (get_or g (at + 2) 0)

  pub grown_string : get_or c t 0 < 256 → (k : ℕ) → k ≡ form_number f → (v iv : List ℕ) → StringEntered text t (get_or c t 0) (record { a = get_or g (at + 1) 0; b = get_or g (at + 2) 0; c = k }) w x v iv
      → Grown text t 1 (adding (tables_in c w) (table_of t) (located g at)) c (set c t (get_or c t 0 + 1)) v iv
  grown_string room k n v iv entered =
      let ten = order.ten in
      let may = row_utf8 text g t at row f e in
      let here = rw n at entered in
      record {
        order = order_string text c w x t order room f _ _ small may row.0 row.1 (row_sound text g t at row f e) v iv here;
        tables = rw (here.words, ← e) (string_more order t room f _ _ small may row.0);
        here = get_or-set_same c t (get_or c t 0 + 1) 0 (omega arith);
        elsewhere = λ j ne. get_or-set_other c t j (get_or c t 0 + 1) 0 ne;
      }

  -- what the index told of it
  module _ (k : ℕ) (held : k ≡ held_as text (table_of t) (tables_in c w) string) where
    number_is : k ≡ number_in (map (octets_of text) (strings (tables_in c w) (table_of t))) (octets_of text (located_of string))
    number_is = held ∙ held_is text (table_of t) (tables_in c w) string (tagged string f _ _ refl)

    pub row_ready : get_or c t 0 < 256 → (h n : ℕ) → n ≡ form_number f → (h ≡ bucket (octets_of text (stretch f (get_or g (at + 1) 0) (get_or g (at + 2) 0)))) × (h < 128)
        → (length w ≡ 7680) × (length x ≡ slots) × (t < 8) × (get_or c t 0 < 256) × (1 ≤ get_or g (at + 2) 0) × (get_or g (at + 1) 0 + get_or g (at + 2) 0 ≤ length text) × (t < 5 → n ≡ 0)
        × (k ≡ number_in (map (octets_of text) (entries (string_at (table_of t) w) (768 * t) (get_or c t 0))) (octets_of text (stretch (form_of n) (get_or g (at + 1) 0) (get_or g (at + 2) 0))))
        × (h ≡ bucket (octets_of text (stretch (form_of n) (get_or g (at + 1) 0) (get_or g (at + 2) 0))))
        × (h < 128)
    row_ready room h n en b =
        enter_ready text c w x t f (get_or g (at + 1) 0) (get_or g (at + 2) 0) order small (row_utf8 text g t at row f e) room row.0 row.1 k n h number_is en b

    told : new_in text g (tables_in c w) t at ≡ (leb 5 t || eqb k 0)
    unfolding new_in
    told = rw (lt-ltb t 8 small, ← e, ← number_is, and_true (leb 5 t))

    pub string_new : k ≡ 0 → eqb k 0 ≡ new_in text g (tables_in c w) t at
    string_new z = rw (told, z) (sym (or_true (leb 5 t)))

    pub string_known : (k ≡ 0 → ⊥) → leb 5 t ≡ new_in text g (tables_in c w) t at
    string_known ne = rw (told, ne_eqb k 0 ne) (sym (or_false (leb 5 t)))

module _ (text g c w x : List ℕ) (t at : ℕ) (order : InOrder text c w x) (k : ℕ) where
  pub name_told : 8 ≤ t → t < 10 → k ≡ number_of_triple (entries (triple_at w) (768 * t) (get_or c t 0)) (triple_at g at) → eqb k 0 ≡ new_in text g (tables_in c w) t at
  unfolding new_in
  name_told low high e = let h : 5 ≤ t = omega arith in rw (le-ltb t 8 low, le-leb 5 t h, triples_are c w order.ten t low high, ← e)

module _ (text g : List ℕ) (t : ℕ) (c w : List ℕ) where
  pub row_string : (at : ℕ) → t < 8 → {c' w' x' : List ℕ} → Grown text t 1 (adding (tables_in c w) (table_of t) (located g at)) c c' w' x' → Grown text t 1 (add_row g (tables_in c w) t at) c c' w' x'
  unfolding add_row
  row_string at h e = rw (lt-ltb t 8 h) e

  pub row_name : (at : ℕ) → 8 ≤ t → {c' w' x' : List ℕ} → Grown text t 1 (adding_name (tables_in c w) (name_table_of t) (triple_at g at)) c c' w' x' → Grown text t 1 (add_row g (tables_in c w) t at) c c' w' x'
  unfolding add_row
  row_name at h e = rw (le-ltb t 8 h) e

  pub rows_none : {x : List ℕ} → InOrder text c w x → Grown text t 0 (add_rows g (tables_in c w) t 0) c c w x
  unfolding add_rows
  rows_none order = record { order = order; tables = refl; here = omega arith; elsewhere = λ j ne. refl }

  pub rows_more : (i row : ℕ) {c₁ w₁ x₁ c₂ w₂ x₂ : List ℕ} → row ≡ rows_of g t → Grown text t i (add_rows g (tables_in c w) t i) c c₁ w₁ x₁ → Grown text t 1 (add_row g (tables_in c₁ w₁) t (row + 3 * i)) c₁ c₂ w₂ x₂
      → Grown text t (i + 1) (add_rows g (tables_in c w) t (i + 1)) c c₂ w₂ x₂
  unfolding add_rows
  rows_more i row e a b =
      record {
        order = b.order;
        tables = b.tables ∙ rw (add-one i, e, a.tables);
        here = let p = a.here in let q = b.here in omega arith;
        elsewhere = λ j ne. b.elsewhere j ne ∙ a.elsewhere j ne;
      }

-- the tables before t are added, and the others are as they start
pub record Added (text g : List ℕ) (t : ℕ) (c w x : List ℕ) : Type 0 where
  pub order : InOrder text c w x
  pub tables : tables_in c w ≡ add_tables g t
  pub fresh : (j : ℕ) → t ≤ j → get_or c j 0 ≡ start_count j

module _ (text g : List ℕ) (t : ℕ) {c w x c' w' x' : List ℕ} where
  pub tables_more : Added text g t c w x → Grown text t (get_or g t 0) (add_rows g (tables_in c w) t (get_or g t 0)) c c' w' x' → Added text g (t + 1) c' w' x'
  unfolding add_tables
  tables_more a b =
      record {
        order = b.order;
        tables = b.tables ∙ rw (add-one t, a.tables);
        fresh = λ j h. b.elsewhere j (λ e. omega arith) ∙ a.fresh j (omega arith);
      }

-- ---- what adding tells
pub tells_held : (new : Bool) (r : Result (Unit {0}) Refusal) (f : Refusal) → IsErrAnd r (λ e. e ≡ f) → f ≡ Repeat → new ≡ false → Tells new r
tells_held new r f passed is held = let p = err_from_is_err_and r passed in rw (p.1, p.2) (held, is)

pub tells_same : (a b : Bool) (r : Result (Unit {0}) Refusal) → a ≡ b → Tells a r → Tells b r
tells_same a b r e h = rw (← e) h
