-- The words of given tables give these very tables: each table's rows stand behind those of the tables before it.
use Prim.Native.Nat.{ℕ, ◌+◌, ◌*◌}
use mathlib.Core.Path.{◌≡◌, refl, sym, ap, ap₂, ◌∙◌, subst}
use mathlib.Core.Bool.{true, ◌||◌, ◌&&◌}
use mathlib.Core.List.{List, [], ◌∷◌, ◌++◌, append_assoc, append-nil}
use native.Mathlib.Omega.{arith}
use native.Mathlib.Nat.{add_assoc}
use borrow.Author.Tests.{eq-eqb, ne_eqb, le-leb}
use lib.Dec.{eqb, leb}
use lib.ListN.{length, length-append}
use lib.Seq.{get_or-append-add}
use Rattle.format.specs.Octets.{Words}
use Rattle.format.specs.Tables.{Triple}
use Rattle.tables.specs.Counts.{triple_words, rows_of}
use Rattle.tables.specs.Rows.{triple_at, entries}
use Rattle.tables.specs.Told.{entries_of}
use Rattle.events.specs.declared.EventString.{EventString}
use Rattle.events.specs.Words.{string_words}
use Rattle.events.specs.FromWords.{string_from}
use Rattle.events.proofs.FromWords.{text_back}
use Rattle.write_head.specs.Given.{Given, entries_before, is_given, rows_of as row_of, given_of}
use Rattle.theorems.specs.Given.{given_words}

-- ---- one entry: its three words are read back, wherever they stand
string_back : (before : Words) (x : EventString) (rest : Words) → string_from (before ++ (string_words x ++ rest)) (length before) ≡ x
unfolding string_from
string_back before x rest =
    let z : length before ≡ length before + 0 = omega arith in
    let past : string_from (before ++ (string_words x ++ rest)) (length before) ≡ string_from (string_words x ++ rest) 0 = rw z (simp (add_assoc, get_or-append-add)) in
    past ∙ rw (text_back x)

triple_back : (before : Words) (x : Triple) (rest : Words) → triple_at (before ++ (triple_words x ++ rest)) (length before) ≡ x
unfolding triple_at
triple_back before x rest = let z : length before ≡ length before + 0 = omega arith in rw z (simp (add_assoc, get_or-append-add))

-- ---- the rows of a table
module _ {A : Type 0} (readAt : Words → ℕ → A) (words : A → Words) (three : (x : A) → length (words x) ≡ 3)
    (back : (before : Words) (x : A) (rest : Words) → readAt (before ++ (words x ++ rest)) (length before) ≡ x) where
  rows-length : (l : List A) → length (rows_of words l) ≡ 3 * length l
  unfolding rows_of
  rows-length [] = refl
  rows-length (x ∷ l) = let n = rows-length l in let k = three x in length-append (words x) (rows_of words l) ∙ omega arith

  rows_back : (before : Words) (l : List A) (rest : Words) → entries (readAt (before ++ (rows_of words l ++ rest))) (length before) (length l) ≡ l
  unfolding rows_of entries
  rows_back before [] rest = refl
  rows_back before (x ∷ l) rest =
      let e : before ++ ((words x ++ rows_of words l) ++ rest) ≡ (before ++ words x) ++ (rows_of words l ++ rest) = ap (λ (w : Words). before ++ w) (append_assoc (words x) (rows_of words l) rest) ∙ sym (append_assoc before (words x) (rows_of words l ++ rest)) in
      let n : length before + 3 ≡ length (before ++ words x) = let k = three x in let l = length-append before (words x) in omega arith in
      let f : readAt (before ++ ((words x ++ rows_of words l) ++ rest)) (length before) ≡ x = ap (λ (w : Words). readAt (before ++ w) (length before)) (append_assoc (words x) (rows_of words l) rest) ∙ back before x (rows_of words l ++ rest) in
      ap₂ ◌∷◌ f (ap₂ (λ (w : Words) (k : ℕ). entries (readAt w) k (length l)) e n ∙ rows_back (before ++ words x) l rest)

-- ---- the ten tables: behind the counts and n entries, the words are these
record Behind (w : Words) (n : ℕ) (rest : Words) : Type 0 where
  before : Words
  is : w ≡ before ++ rest
  at : length before ≡ 10 + 3 * n

module _ {A : Type 0} (readAt : Words → ℕ → A) (words : A → Words) (three : (x : A) → length (words x) ≡ 3)
    (back : (before : Words) (x : A) (rest : Words) → readAt (before ++ (words x ++ rest)) (length before) ≡ x) {w : Words} {n : ℕ} (l : List A) (rest : Words) (b : Behind w n (rows_of words l ++ rest)) where
  here : entries (readAt w) (10 + 3 * n) (length l) ≡ l
  here = rw (b.is, ← b.at) (rows_back readAt words three back b.before l rest)

  next : Behind w (n + length l) rest
  next =
      record {
        before = b.before ++ rows_of words l;
        is = b.is ∙ sym (append_assoc b.before (rows_of words l) rest);
        at = let k = length-append b.before (rows_of words l) in let r = rows-length readAt words three back l in let a = b.at in omega arith;
      }

module _ (g : Given) where
  abbrev w : Words
  w = given_words g

  -- the rows of names, and what stands behind each table of strings
  abbrev name_rows : Words
  name_rows = rows_of triple_words g.elements ++ rows_of triple_words g.attributes

  abbrev after_chunks : Words
  after_chunks = rows_of string_words g.others ++ name_rows

  abbrev after_values : Words
  after_values = rows_of string_words g.chunks ++ after_chunks

  abbrev after_uris : Words
  after_uris = rows_of string_words g.values ++ after_values

  abbrev after_ncnames : Words
  after_ncnames = rows_of string_words g.uris ++ after_uris

  abbrev after_locals : Words
  after_locals = rows_of string_words g.ncnames ++ after_ncnames

  abbrev after_namespaces : Words
  after_namespaces = rows_of string_words g.locals ++ after_locals

  abbrev after_prefixes : Words
  after_prefixes = rows_of string_words g.namespaces ++ after_namespaces

  abbrev strings_here : {n : ℕ} (l : List EventString) (rest : Words) (b : Behind w n (rows_of string_words l ++ rest)) → entries (string_from w) (10 + 3 * n) (length l) ≡ l
  strings_here = here string_from string_words (λ x. refl) string_back

  abbrev strings_next : {n : ℕ} (l : List EventString) (rest : Words) (b : Behind w n (rows_of string_words l ++ rest)) → Behind w (n + length l) rest
  strings_next = next string_from string_words (λ x. refl) string_back

  pub given_back : (is_given (given_words g) ≡ true) × (given_of (given_words g) ≡ g)
  unfolding given_words is_given given_of row_of entries_before entries_of
  given_back =
      let b0 : Behind w 0 (rows_of string_words g.prefixes ++ after_prefixes) = record { before = entries_of g; is = refl; at = refl } in
      let b1 = strings_next g.prefixes after_prefixes b0 in
      let b2 = strings_next g.namespaces after_namespaces b1 in
      let b3 = strings_next g.locals after_locals b2 in
      let b4 = strings_next g.ncnames after_ncnames b3 in
      let b5 = strings_next g.uris after_uris b4 in
      let b6 = strings_next g.values after_values b5 in
      let b7 = strings_next g.chunks after_chunks b6 in
      let b8 = strings_next g.others name_rows b7 in
      let b9 = last (next triple_at triple_words (λ x. refl) triple_back g.elements (rows_of triple_words g.attributes) b8) in
      let b10 = next triple_at triple_words (λ x. refl) triple_back g.attributes [] b9 in (
        whole b10,
        λ i. record {
          prefixes = strings_here g.prefixes after_prefixes b0 i;
          namespaces = strings_here g.namespaces after_namespaces b1 i;
          locals = strings_here g.locals after_locals b2 i;
          ncnames = strings_here g.ncnames after_ncnames b3 i;
          uris = strings_here g.uris after_uris b4 i;
          values = strings_here g.values after_values b5 i;
          chunks = strings_here g.chunks after_chunks b6 i;
          others = strings_here g.others name_rows b7 i;
          elements = here triple_at triple_words (λ x. refl) triple_back g.elements (rows_of triple_words g.attributes) b8 i;
          attributes = here triple_at triple_words (λ x. refl) triple_back g.attributes [] b9 i;
        },
      )
    where
      last : {w : Words} {n : ℕ} {rest : Words} → Behind w n rest → Behind w n (rest ++ [])
      last {w} {n} {rest} b = subst (Behind w n) (sym (append-nil rest)) b

      whole : {w : Words} {n : ℕ} → Behind w n [] → (eqb (length w) 0 || (leb 10 (length w) && eqb (length w) (10 + 3 * n))) ≡ true
      whole {w} {n} b =
          let l = ap length (b.is ∙ append-nil b.before) in
          let k = b.at in
          rw (ne_eqb (length w) 0 (λ e. omega arith), le-leb 10 (length w) (omega arith), eq-eqb (length w) (10 + 3 * n) (omega arith))
