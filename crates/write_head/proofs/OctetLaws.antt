-- The octets of a head: a law for each way out of the functions that put them, on plain values.
-- Assumes nothing.
use mathlib.Core.Path.{◌≡◌, refl, ◌∙◌}
use mathlib.Core.List.{List, [], ◌∷◌}
use Prim.Native.Nat.{ℕ, zero, suc, ◌+◌, ◌*◌, ◌/◌, ◌%◌, ◌≤◌, ◌<◌}
use native.Mathlib.Omega.{arith}
use native.Mathlib.Numerals.{add-one}
use borrow.Author.Tests.{lt-ltb, le-ltb}
use lib.ListN.{length, get_or, set, take, drop}
use Rattle.format.specs.Numbers.{spell, lengths, c21, c25}
use Rattle.format.specs.Head.{some?, c19}
use Rattle.format.specs.Forms.{form_number}
use Rattle.format.specs.declared.StringForm.{StringForm}
use Rattle.fields.specs.PutContracts.{Puts}
use Rattle.fields.proofs.Puts.{puts_nothing, puts_octet, puts_append}
use Rattle.tables.specs.Located.{octets_of}
use Rattle.tables.specs.Rows.{table_of, triple_at}
use Rattle.events.specs.declared.EventString.{EventString}
use Rattle.events.specs.Records.{located_of}
use Rattle.write_names.specs.Promises.{said_most, value_most, chosen_field}
use Rattle.write_names.proofs.Stretches.{Stretched, plain_says, plain-length}
use Rattle.write_head.specs.Given.{rows_of}
use Rattle.write_head.specs.Head.{entry_octets, listing, part_octets, name_octets}
use Rattle.write_head.specs.RowContracts.{join_below, located, row_most, table_most, row_octets, rows_octets, table_octets_of, presence_of, head_of}
use Rattle.write_head.proofs.GivenLaws.{identifying}

module _ {out out' : List ℕ} {at r : ℕ} where
  pub part_none : (n : ℕ) → n ≡ 0 → out' ≡ out → r ≡ at → Puts out at r out' (part_octets n) × (r ≤ at + 3)
  part_none n e o q = rw (e, o) (puts_nothing q, omega arith)

  pub part-number : (n : ℕ) → (n ≡ 0 → ⊥) → Puts out at r out' (spell c25 0 n) × (r ≤ at + 3) → Puts out at r out' (part_octets n) × (r ≤ at + 3)
  part-number zero h p = absurd (h refl)
  part-number (suc n) h p = p

  -- a string of n octets in UTF-8: an identifying one, and another
  module _ (t : ℕ) (small : t < 8) (text : List ℕ) (x : EventString) where
    pub puts_identifying : t < 5 → {f : StringForm} {p m : ℕ} → Stretched text x f p m → form_number f ≡ 0 → (n : ℕ) → n ≡ length (octets_of text (located_of x)) → n ≤ said_most → {q : ℕ} {out'' : List ℕ}
        → Puts out at r out' (spell (lengths 2) 0 n) × (r ≤ at + 5) → Puts out' r q out'' (take n (drop p text))
        → Puts out at q out'' (entry_octets (table_of t) (listing (table_of t) (octets_of text (located_of x)))) × (q ≤ at + row_most)
    unfolding entry_octets listing
    puts_identifying low s z n size fits a b =
        let m = size ∙ plain-length s z in
        let c = rw (← plain_says s z) at (rw m at b) in
        let k = c.behind in
        let l = a.1 in
        (rw (identifying t small, lt-ltb t 5 low) (puts_append (rw size at a.0) c), omega arith)

    pub puts_other : 5 ≤ t → Puts out at r out' (chosen_field 5 0 (octets_of text (located_of x))) × (r ≤ at + value_most)
        → Puts out at r out' (entry_octets (table_of t) (listing (table_of t) (octets_of text (located_of x)))) × (r ≤ at + row_most)
    unfolding entry_octets listing chosen_field c19
    puts_other high p = rw (identifying t small, le-ltb t 5 high) p

  pub puts_name : (p n l b : ℕ) {out₁ out₂ out₃ : List ℕ} {q u : ℕ} → b ≡ 2 * some? p + some? n → out' ≡ set out at b → Puts out' (at + 1) q out₁ (part_octets p) × (q ≤ at + 1 + 3)
      → Puts out₁ q u out₂ (part_octets n) × (u ≤ q + 3) → Puts out₂ u r out₃ (part_octets l) × (r ≤ u + 3)
      → Puts out at r out₃ (name_octets (record { prefix = p; namespace = n; local = l })) × (r ≤ at + row_most)
  unfolding name_octets
  puts_name p n l b e o x y z = (puts_octet (rw e at o) (puts_append x.0 (puts_append y.0 z.0)), let a = x.1 in let b = y.1 in let d = z.1 in omega arith)

  module _ (text g : List ℕ) (t row : ℕ) where
    pub row_string : t < 8 → Puts out at r out' (entry_octets (table_of t) (listing (table_of t) (octets_of text (located g row)))) × (r ≤ at + row_most) → Puts out at r out' (row_octets text g t row) × (r ≤ at + row_most)
    unfolding row_octets
    row_string h p = rw (lt-ltb t 8 h) p

    pub row_name : 8 ≤ t → Puts out at r out' (name_octets (triple_at g row)) × (r ≤ at + row_most) → Puts out at r out' (row_octets text g t row) × (r ≤ at + row_most)
    unfolding row_octets
    row_name h p = rw (le-ltb t 8 h) p

-- ---- octets put by a loop
module _ (f : ℕ → List ℕ) {out : List ℕ} {at : ℕ} where
  pub joins_none : Puts out at at out (join_below f 0)
  unfolding join_below
  joins_none = puts_nothing refl

  pub joins_more : (i : ℕ) {out₁ out₂ : List ℕ} {r q : ℕ} → Puts out at r out₁ (join_below f i) → Puts out₁ r q out₂ (f i) → Puts out at q out₂ (join_below f (i + 1))
  unfolding join_below
  joins_more i a b = rw (add-one i) (puts_append a b)

module _ (text g : List ℕ) (t : ℕ) {out : List ℕ} {at : ℕ} where
  pub rows_none : Puts out at at out (rows_octets text g t 0)
  unfolding rows_octets
  rows_none = joins_none _

  pub rows_more : (i row : ℕ) {out₁ out₂ : List ℕ} {r q : ℕ} → row ≡ rows_of g t → Puts out at r out₁ (rows_octets text g t i) → Puts out₁ r q out₂ (row_octets text g t (row + 3 * i)) → Puts out at q out₂ (rows_octets text g t (i + 1))
  unfolding rows_octets
  rows_more i row e a b = joins_more (λ (i : ℕ). row_octets text g t (rows_of g t + 3 * i)) i a (rw e at b)

  pub table_none : get_or g t 0 ≡ 0 → {r : ℕ} → r ≡ at → Puts out at r out (table_octets_of text g t) × (r ≤ at + table_most)
  unfolding table_octets_of rows_octets join_below
  table_none e q = rw e (puts_nothing q, omega arith)

  pub table_some : (n : ℕ) {out₁ out₂ : List ℕ} {r q : ℕ} → n ≡ get_or g t 0 → (n ≡ 0 → ⊥) → Puts out at r out₁ (spell c21 0 n) × (r ≤ at + 3) → Puts out₁ r q out₂ (rows_octets text g t (get_or g t 0)) × (q ≤ r + 256 * row_most)
      → Puts out at q out₂ (table_octets_of text g t) × (q ≤ at + table_most)
  unfolding table_octets_of
  table_some zero e ne a b = absurd (ne refl)
  table_some (suc n) e ne a b = rw (← e) (puts_append a.0 (rw (← e) at b.0), let l = a.1 in let m = b.1 in omega arith)

pub head_puts : (text g : List ℕ) (p x y : ℕ) {out o₁ o₂ o₃ o₄ o₅ : List ℕ} {r : ℕ} → p ≡ presence_of g → x ≡ p / 256 → y ≡ p % 256
    → {a b d : ℕ} → Puts out 0 a o₁ (0xE0 ∷ 0x00 ∷ 0x00 ∷ 0x01 ∷ []) → o₂ ≡ set o₁ a 0x20 → b ≡ a + 1 → o₃ ≡ set o₂ b x → d ≡ b + 1 → o₄ ≡ set o₃ d y → {e : ℕ} → e ≡ d + 1 → Puts o₄ e r o₅ (join_below (table_octets_of text g) 10)
    → Puts out 0 r o₅ (head_of text g)
unfolding head_of
head_puts text g p x y ep ex ey h p₁ eb p₂ ed p₃ ee t =
    rw (← ep, ← ex, ← ey) (puts_append h (puts_octet p₁ (rw (← eb) (puts_octet p₂ (rw (← ed) (puts_octet p₃ (rw (← ee) t)))))))
