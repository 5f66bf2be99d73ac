-- The head as one thing: a law for each way out of the functions that judge and write it, on plain values.
-- Assumes nothing.
use mathlib.Core.Path.{◌≡◌, refl, sym, ap, ◌∙◌}
use mathlib.Core.Bool.{true, false, ◌||◌}
use mathlib.Core.List.{List, [], ◌∷◌}
use Rattle.std.proofs.Common.{Result, Err}
use Rattle.std.specs.Result.{IsErrAnd}
use Rattle.std.proofs.lemmas.Result.{err_from_is_err_and}
use Prim.Native.Nat.{ℕ, zero, suc, ◌+◌, ◌*◌, ◌≤◌, ◌<◌, min}
use native.Mathlib.Omega.{arith}
use borrow.Author.Tests.{le-ltb, eq-eqb, ne_eqb, le-leb, lt-leb, leb-true, eqb-true}
use lib.Dec.{eqb, leb}
use lib.ListN.{length, get_or, replicate}
use lib.Seq.{sets, length-sets}
use Rattle.format.specs.Numbers.{pick, from_bits}
use Rattle.format.specs.Tables.{no_entries, followed_by, vocabulary_map, starting, strings, names, holds, holds_name, link}
use Rattle.format.specs.Head.{some?, is_identifying, ten_tables, size_of, presence}
use Rattle.format.specs.Refusals.{refusal_number}
use Rattle.format.specs.declared.refusals.Refusal.{Refusal}
use Rattle.format.specs.declared.refusals.Refusal.TheVariants.{Text, Repeat, Full, Event}
use Rattle.fields.specs.PutContracts.{Puts}
use Rattle.tables.specs.Located.{start}
use Rattle.tables.specs.Rows.{entries}
use Rattle.tables.specs.Counts.{counts_of}
use Rattle.tables.specs.Kept.{listed}
use Rattle.tables.proofs.ByNumber.{by_number_lem}
use Rattle.tables.proofs.Found.{both_true}
use Rattle.tables.proofs.Laws.{vocabulary-start}
use Rattle.index.specs.Indexed.{slots}
use Rattle.write_names.specs.Promises.{tables_in, InOrder}
use Rattle.write_names.proofs.Order.{order_start}
use Rattle.write_head.specs.Given.{entries_before, is_given, given_of}
use Rattle.write_head.specs.Head.{every, distinct, distinct_names, in_strings, in_names, is_none, octets_before, head_for, well_given, text_given, new_given, few_given, tables_of, head_octets, fault_of_head, fault_of_given}
use Rattle.write_head.specs.Promises.{Opened, Opens}
use Rattle.write_head.specs.RowContracts.{below, Laid, start_count, keeps, few_table, Few, Right, Texts, Tells, presence_of, head_of, add_tables, Passed, Judged}
use Rattle.write_head.proofs.RowLaws.{given_laid}
use Rattle.write_head.proofs.GivenLaws.{right_is, text_is, new_is, few_is}
use Rattle.write_head.proofs.HeadLaws.{none_is, added_is, head_is}

-- ---- output that was clear, behind what was put into it
cleared : (s : List ℕ) {o out : List ℕ} → o ≡ replicate (length o) 0 → out ≡ sets o 0 s → out ≡ sets (replicate (length out) 0) 0 s
cleared s {o} {out} e put =
    let n : length out ≡ length o = rw put (length-sets o 0 s) in
    put ∙ ap (λ (l : List ℕ). sets l 0 s) (rw (← n) at e)

-- ---- the judgement
module _ (text g : List ℕ) where
  fault_event : (room : ℕ) → false ≡ keeps 16 text g → fault_of_head link text (given_of g) room ≡ 16
  unfolding fault_of_head
  fault_event room e = rw (← right_is g text, ← e)

  module _ (right : Right text g) where
    fault_text : (room : ℕ) → false ≡ keeps 9 text g → fault_of_head link text (given_of g) room ≡ 9
    unfolding fault_of_head
    fault_text room e = rw (← right_is g text, right, ← text_is g text right, ← e)

    module _ (all_text : keeps 9 text g ≡ true) where
      fault_repeat : (room : ℕ) → false ≡ keeps 11 text g → fault_of_head link text (given_of g) room ≡ 11
      unfolding fault_of_head
      fault_repeat room e = rw (← right_is g text, right, ← text_is g text right, all_text, ← new_is g text right, ← e)

      module _ (all_new : keeps 11 text g ≡ true) where
        fault_full : (room : ℕ) → false ≡ below (few_table g) 10 → fault_of_head link text (given_of g) room ≡ 12
        unfolding fault_of_head
        fault_full room e = rw (← right_is g text, right, ← text_is g text right, all_text, ← new_is g text right, all_new, ← few_is g text, ← e)

        fault_room : Few g → (room : ℕ) → fault_of_head link text (given_of g) room ≡ pick (is_none (given_of g) || leb (length (head_octets link text (given_of g))) (min room 16384)) 0 14
        unfolding fault_of_head link
        fault_room few room = rw (← right_is g text, right, ← text_is g text right, all_text, ← new_is g text right, all_new, ← few_is g text, few)

  pub not_right : keeps 16 text g ≡ false → Judged text g (Err Event)
  not_right e = λ room. fault_event room (sym e)

  module _ (right : Right text g) where
    pub not_text : keeps 9 text g ≡ false → Judged text g (Err Text)
    not_text e = λ room. fault_text right room (sym e)

    module _ (texts : Texts text g) where
      pub not_new : keeps 11 text g ≡ false → Judged text g (Err Repeat)
      not_new e = λ room. fault_repeat right texts room (sym e)

      pub not_few : keeps 11 text g ≡ true → false ≡ below (few_table g) 10 → Judged text g (Err Full)
      not_few new e = λ room. fault_full right texts new room e

      pub all_few : Few g → Passed text g
      all_few few =
          record {
            right = right;
            texts = texts;
            few = few;
            repeats = λ held room. fault_repeat right texts room (sym held);
            left = λ new room. fault_room right texts new few room;
          }

  -- ---- words that give something
  laid_given : Laid g → is_given g ≡ true
  laid_given laid = sym (given_laid g laid.0 (entries_before g 10) refl) ∙ eq-eqb (length g) (10 + 3 * entries_before g 10) laid.1

  pub given-words : is_given g ≡ true → (length g ≡ 0 → ⊥) → Laid g
  unfolding is_given
  given-words e ne =
      let b = both_true (leb 10 (length g)) (eqb (length g) (10 + 3 * entries_before g 10)) (rw (ne_eqb (length g) 0 ne) at e) in
      (leb-true _ _ b.0, eqb-true _ _ b.1)

  fault_of_lem : (room : ℕ) → Laid g → fault_of_given link text g room ≡ fault_of_head link text (given_of g) room
  unfolding fault_of_given
  fault_of_lem room laid = rw (laid_given laid)

  pub no_tables : (room : ℕ) → false ≡ is_given g → fault_of_given link text g room ≡ 16
  unfolding fault_of_given
  no_tables room e = rw (← e)

  -- a refusal that is passed on
  module _ (laid : Laid g) (room : ℕ) (f : Refusal) (r : Result ℕ Refusal) (passed : IsErrAnd r (λ e. e ≡ f)) (out c w x : List ℕ) where
    passed_on : fault_of_given link text g room ≡ refusal_number f → Opens g text room r out c w x
    passed_on is = let p = err_from_is_err_and r passed in rw (p.1, p.2) is

    pub entries_wrong : Judged text g (Err f) → Opens g text room r out c w x
    entries_wrong judged = passed_on (fault_of_lem room laid ∙ judged room)

    pub entry_repeats : Passed text g → Tells (keeps 11 text g) (Err f) → Opens g text room r out c w x
    entry_repeats judged told = passed_on (fault_of_lem room laid ∙ judged.repeats told.0 room ∙ rw told.1)

  module _ (laid : Laid g) (judged : Passed text g) (new : keeps 11 text g ≡ true) (ne : presence_of g ≡ 0 → ⊥) {out out' : List ℕ} {at : ℕ} (put : Puts out 0 at out' (head_of text g)) where
    long : length (head_octets link text (given_of g)) ≡ at
    long = let b = put.behind in rw (head_is g text judged.right ne) (omega arith)

    listing : is_none (given_of g) ≡ false
    listing = none_is g ∙ ne_eqb (presence_of g) 0 ne

    fault_left : (room : ℕ) → fault_of_given link text g room ≡ pick (leb at (min room 16384)) 0 14
    fault_left room = fault_of_lem room laid ∙ judged.left new room ∙ rw (listing, long)

    pub no_room : (room : ℕ) → min room 16384 < at → fault_of_given link text g room ≡ 14
    no_room room h = fault_left room ∙ rw (lt-leb at (min room 16384) h)

    pub opened : (room : ℕ) → out ≡ replicate (length out) 0 → at ≤ min room 16384 → {c w x : List ℕ} → (tables_in c w ≡ add_tables g 10) × InOrder text c w x → Opened g text room at out' c w x
    opened room e l a =
        record {
          right = fault_left room ∙ rw (le-leb at (min room 16384) l);
          behind = sym long;
          near = omega arith;
          written = cleared (head_octets link text (given_of g)) e (put.is ∙ rw (head_is g text judged.right ne));
          tables = a.0 ∙ added_is g text judged.right;
          order = a.1;
        }

-- ---- words that give nothing
some_none : (x : ℕ) → some? x ≡ 0 → x ≡ 0
some_none zero e = refl
some_none (suc x) e = absurd (omega arith)

pub no_bits : (g : List ℕ) → presence_of g ≡ 0 → (t : ℕ) → t < 10 → get_or g t 0 ≡ 0
unfolding presence_of
no_bits g e t h =
    by_number_lem (λ (t : ℕ). get_or g t 0 ≡ 0) 0 10
    (some_none (get_or g 0 0) (omega arith), (some_none (get_or g 1 0) (omega arith), (some_none (get_or g 2 0) (omega arith), (some_none (get_or g 3 0) (omega arith), (some_none (get_or g 4 0) (omega arith), (some_none (get_or g 5 0) (omega arith), (some_none (get_or g 6 0) (omega arith), (some_none (get_or g 7 0) (omega arith), (some_none (get_or g 8 0) (omega arith), (some_none (get_or g 9 0) (omega arith), tt)))))))))) t (omega arith) (omega arith)

pub no_words : (g : List ℕ) → length g ≡ 0 → (t : ℕ) → t < 10 → get_or g t 0 ≡ 0
no_words [] e t h = refl
no_words (x ∷ g) e t h = absurd (omega arith)

given_nothing : (g : List ℕ) → ((t : ℕ) → t < 10 → get_or g t 0 ≡ 0) → given_of g ≡ no_entries
unfolding given_of no_entries entries
given_nothing g z =
    rw (z 0 (omega arith), z 1 (omega arith), z 2 (omega arith), z 3 (omega arith), z 4 (omega arith), z 5 (omega arith), z 6 (omega arith), z 7 (omega arith), z 8 (omega arith), z 9 (omega arith))

none_wrong : (text : List ℕ) (room : ℕ) → fault_of_head link text no_entries room ≡ 0
unfolding fault_of_head well_given text_given new_given few_given in_strings in_names every distinct distinct_names holds holds_name is_identifying is_none presence from_bits size_of ten_tables strings names no_entries followed_by vocabulary_map start starting link
none_wrong text room = refl

none_octets : (text : List ℕ) → head_octets link text no_entries ≡ 0xE0 ∷ 0x00 ∷ 0x00 ∷ 0x01 ∷ 0x00 ∷ []
unfolding head_octets head_for octets_before is_none presence from_bits size_of ten_tables strings names no_entries vocabulary_map link
none_octets text = refl

none_tables : tables_of link no_entries ≡ start link
unfolding no_entries followed_by vocabulary_map start starting link
none_tables = refl

pub start_counts : (j : ℕ) → get_or (listed (counts_of (start link))) j 0 ≡ start_count j
unfolding counts_of start starting link start_count
start_counts zero = refl
start_counts (suc zero) = refl
start_counts (suc (suc j)) = let h : 2 ≤ suc (suc j) = omega arith in rw (le-ltb (suc (suc j)) 2 h) (zeros j)
  where
    zeros : (j : ℕ) → ◌≡◌ {A = ℕ} (get_or (0 ∷ 0 ∷ 0 ∷ 0 ∷ 0 ∷ 0 ∷ 0 ∷ 0 ∷ []) j 0) 0
    zeros zero = refl
    zeros (suc zero) = refl
    zeros (suc (suc zero)) = refl
    zeros (suc (suc (suc zero))) = refl
    zeros (suc (suc (suc (suc zero)))) = refl
    zeros (suc (suc (suc (suc (suc zero))))) = refl
    zeros (suc (suc (suc (suc (suc (suc zero)))))) = refl
    zeros (suc (suc (suc (suc (suc (suc (suc zero))))))) = refl
    zeros (suc (suc (suc (suc (suc (suc (suc (suc j)))))))) = refl

module _ (text : List ℕ) {c w x : List ℕ} (short : length text ≤ 16384) (ec : c ≡ listed (counts_of (start link))) (ew : w ≡ replicate 7680 0) (ex : x ≡ replicate slots 0) where
  pub order_begun : InOrder text c w x
  order_begun = rw (ec, ew) (order_start text x short ex)

  pub tables_begun : tables_in c w ≡ start link
  tables_begun = rw (ec, ew) (vocabulary-start (replicate 7680 0) refl refl)

  pub opened_none : (g : List ℕ) (room : ℕ) → is_given g ≡ true → ((t : ℕ) → t < 10 → get_or g t 0 ≡ 0) → {o out : List ℕ} → o ≡ replicate (length o) 0 → out ≡ sets o 0 (0xE0 ∷ 0x00 ∷ 0x00 ∷ 0x01 ∷ 0x00 ∷ [])
      → Opened g text room 5 out c w x
  unfolding fault_of_given
  opened_none g room given z clear e =
      let n = given_nothing g z in
      record {
        right = rw (given, n) (none_wrong text room);
        behind = rw (n, none_octets text);
        near = omega arith;
        written = cleared (head_octets link text (given_of g)) clear (e ∙ rw (n, none_octets text));
        tables = rw n (tables_begun ∙ sym none_tables);
        order = order_begun;
      }
