-- A row is held exactly where its table, with the rows before it added, has a number for its string or its name: what the index tells.
-- Assumes nothing.
use mathlib.Core.Path.{◌≡◌, refl, sym, ap, ◌∙◌}
use mathlib.Core.Bool.{Bool, true, false, not}
use mathlib.Core.List.{List, map}
use Prim.Native.Nat.{ℕ, ◌+◌, ◌*◌, ◌≤◌, ◌<◌}
use borrow.Author.Tests.{lt-ltb, le-ltb}
use lib.Dec.{eqb}
use lib.ListN.{get_or}
use Rattle.format.specs.Tables.{Triple, Vocabulary, strings, names, same, same_triple}
use Rattle.fields.proofs.Laws.{case}
use Rattle.tables.specs.Located.{Located, octets_of}
use Rattle.tables.specs.Rows.{table_of, triple_at}
use Rattle.tables.specs.Search.{number_in, number_of_triple}
use Rattle.tables.specs.Kept.{name_table_of}
use Rattle.tables.proofs.Found.{any_lowest}
use Rattle.write_head.specs.Given.{rows_of}
use Rattle.write_head.specs.RowContracts.{located, new_in, held_row, new_row, keeps_row, add_rows, add_tables, Right}
use Rattle.write_head.proofs.ListLaws.{held_by}
use Rattle.write_head.proofs.GivenLaws.{held_is, held_name, all_spelt}
use Rattle.write_head.proofs.HeadLaws.{strings_with, names_with}

not_not : (b : Bool) → not (not b) ≡ b
not_not true = refl
not_not false = refl

-- what a list does not hold has no number in it
no_string : (l : List (List ℕ)) (x : List ℕ) → not (held_by same l x) ≡ eqb (number_in l x) 0
unfolding number_in held_by
no_string l x = ap not (any_lowest (λ (y : List ℕ). same y x) (λ (m : List (List ℕ)). held_by same m x) refl (λ y ys. refl) 0 l) ∙ not_not (eqb (number_in l x) 0)

no_name_lem : (l : List Triple) (x : Triple) → not (held_by same_triple l x) ≡ eqb (number_of_triple l x) 0
unfolding number_of_triple held_by
no_name_lem l x = ap not (any_lowest (λ (y : Triple). same_triple y x) (λ (m : List Triple). held_by same_triple m x) refl (λ y ys. refl) 0 l) ∙ not_not (eqb (number_of_triple l x) 0)

module _ (text g : List ℕ) (right : Right text g) (t i : ℕ) (l : i < get_or g t 0) where
  abbrev v : Vocabulary Located
  v = add_rows g (add_tables g t) t i

  abbrev at : ℕ
  at = rows_of g t + 3 * i

  string_new : t < 8 → eqb (number_in (map (octets_of text) (strings v (table_of t))) (octets_of text (located g at))) 0 ≡ not (held_row text g t i)
  string_new h = rw (strings_with g t h i, all_spelt g text right t i, held_is g text right t i h l) (sym (no_string _ (octets_of text (located g at))))

  name_new : 8 ≤ t → t < 10 → eqb (number_of_triple (names v (name_table_of t)) (triple_at g at)) 0 ≡ not (held_row text g t i)
  name_new low h = rw (names_with g t low h i, held_name g text right t i low) (sym (no_name_lem _ (triple_at g at)))

  -- in REPEAT's rule
  row_new : t < 10 → new_in text g v t at ≡ keeps_row 11 text g t i
  unfolding new_in new_row keeps_row
  row_new h = case t 8 (λ s. rw (string_new s, lt-ltb t 8 s)) (λ s. rw (name_new s h, le-ltb t 8 s))

  pub row_told : t < 10 → (rows : ℕ) (u begun : Vocabulary Located) → rows ≡ rows_of g t → u ≡ add_rows g begun t i → begun ≡ add_tables g t → new_in text g u t (rows + 3 * i) ≡ keeps_row 11 text g t i
  row_told h rows u begun e a b = rw (a, b, e) (row_new h)
