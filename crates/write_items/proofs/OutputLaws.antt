-- The output while a document is written: what it holds behind each end, each item and each event, and behind the document's end.
-- Assumes nothing.
use mathlib.Core.Path.{◌≡◌, refl, sym, ◌∙◌}
use mathlib.Core.List.{List, [], ◌∷◌, ◌++◌, append_assoc, append-nil}
use mathlib.Core.Bool.{true, false, not, ◌&&◌}
use Prim.Native.Nat.{ℕ, zero, suc, ◌+◌, ◌-◌, ◌*◌, ◌/◌, ◌%◌, ◌≤◌}
use native.Mathlib.Nat.{zero-add}
use native.Mathlib.Numerals.{add-one}
use native.Mathlib.Decide.{ℕ_discrete}
use native.Mathlib.Omega.{arith}
use borrow.Author.Tests.{eq-eqb, ne_eqb}
use lib.ListN.{length, drop, set, replicate, length-append, length-replicate}
use lib.Seq.{sets, sets-eq, length-sets, set-set, append_snoc}
use Rattle.format.specs.Events as E
use Rattle.format.specs.Tables.{link}
use Rattle.format.specs.Items.{State}
use Rattle.format.specs.Document.{halves, pad, aligned}
use Rattle.fields.specs.PutContracts.{Puts}
use Rattle.fields.proofs.Puts.{puts_nothing, puts_one, puts_append}
use Rattle.tables.specs.Located.{Located}
use Rattle.write_items.specs.Events.{is_listing}
use Rattle.write_items.specs.Items.{WroteItem}
use Rattle.write_items.specs.Steps.{is_attribute, is_end, owed, halves_of, joined}
use Rattle.write_items.specs.OutputContracts.{Holds, Grown, end_octet}

-- ---- halves and the octets that they are joined to

pub length-joined : (hs : List ℕ) → length (joined hs) ≡ (length hs + 1) / 2
unfolding joined
length-joined [] = refl
length-joined (h ∷ []) = refl
length-joined (h ∷ l ∷ hs) = let i = length-joined hs in omega arith

-- where the first halves fill their octets
pub joined_append : (hs ks : List ℕ) → length hs % 2 ≡ 0 → joined (hs ++ ks) ≡ joined hs ++ joined ks
unfolding joined
joined_append [] ks e = refl
joined_append (h ∷ []) ks e = absurd (omega arith)
joined_append (h ∷ l ∷ hs) ks e = rw (joined_append hs ks (omega arith))

pub joined-halves : (os : List ℕ) → joined (halves os) ≡ os
unfolding joined halves
joined-halves [] = refl
joined-halves (o ∷ os) = let z : 16 * (o / 16) + o % 16 ≡ o = omega arith in rw (z, joined-halves os)

pub length-halves : (os : List ℕ) → length (halves os) ≡ 2 * length os
unfolding halves
length-halves [] = refl
length-halves (o ∷ os) = let i = length-halves os in omega arith

-- the half of padding is in the octet already
joined_padded : (hs : List ℕ) (at : ℕ) → at % 2 ≡ length hs % 2 → joined (hs ++ pad at) ≡ joined hs
unfolding joined pad
joined_padded [] at e = rw e
joined_padded (h ∷ []) at e = let z : 16 * h + 0 ≡ 16 * h = omega arith in rw (e, z)
joined_padded (h ∷ l ∷ hs) at e = rw (joined_padded hs at (omega arith))

pub length-pad : (at : ℕ) → length (pad at) ≡ at % 2
unfolding pad
length-pad at = length-replicate {A = ℕ} (at % 2) 0

drop_zeros : (n room : ℕ) → drop n (replicate {A = ℕ} room 0) ≡ replicate (room - n) 0
drop_zeros zero room = let z : room - 0 ≡ room = omega arith in rw z
drop_zeros (suc n) zero = let z : 0 - suc n ≡ 0 = omega arith in rw z
drop_zeros (suc n) (suc room) = let z : suc room - suc n ≡ room - n = omega arith in rw z (drop_zeros n room)

-- octets in room that was clear, where they have room
pub sets_whole : (s : List ℕ) (room : ℕ) → length s ≤ room → sets (replicate room 0) 0 s ≡ s ++ replicate (room - length s) 0
sets_whole s room h =
    let z = length-replicate {A = ℕ} room 0 in
    sets-eq s (replicate room 0) 0 (omega arith) ∙ simp (zero-add, drop_zeros)

-- ---- one octet behind halves that fill theirs

sets_last : (l xs : List ℕ) (b : ℕ) → sets l 0 (xs ++ (b ∷ [])) ≡ set (sets l 0 xs) (length xs) b
sets_last l xs b = let p : Puts l 0 (length xs) (sets l 0 xs) xs = record { behind = omega arith; is = refl } in sym (puts_append p (puts_one refl)).is

octet-more : (l hs ks : List ℕ) (b : ℕ) → length hs % 2 ≡ 0 → joined ks ≡ b ∷ [] → sets l 0 (joined (hs ++ ks)) ≡ set (sets l 0 (joined hs)) (length hs / 2) b
octet-more l hs ks b e q =
    let n : length (joined hs) ≡ length hs / 2 = length-joined hs ∙ omega arith in
    rw (joined_append hs ks e, q, ← n) (sets_last l (joined hs) b)

-- an end behind another, which is put again with it
octet_again : (l ks : List ℕ) → length ks % 2 ≡ 0 → set (sets l 0 (joined (ks ++ (15 ∷ [])))) (length ks / 2) 0xFF ≡ sets l 0 (joined (ks ++ (15 ∷ 15 ∷ [])))
unfolding joined
octet_again l ks e = rw (octet-more l ks (15 ∷ []) 0xF0 e refl, octet-more l ks (15 ∷ 15 ∷ []) 0xFF e refl, set-set)

-- ---- an end, by the half of an octet that it stands in

module _ (at : ℕ) where
  pub end_first : at % 2 ≡ 0 → 0xF0 ≡ end_octet at
  unfolding end_octet
  end_first z = rw (eq-eqb (at % 2) 0 z)

  pub end_second : (at % 2 ≡ 0 → ⊥) → 0xFF ≡ end_octet at
  unfolding end_octet
  end_second z = rw (ne_eqb (at % 2) 0 z)

-- ---- what is held goes on

-- nothing but what stands before the body
pub head_held : {size at : ℕ} {out : List ℕ} (before : List ℕ) → at ≡ length before → out ≡ sets (replicate size 0) 0 before → Holds size (halves before) (2 * at) out
head_held before n e =
    record { behind = rw (n, length-halves before); is = rw (joined-halves before) e; ends = λ o. absurd (omega arith) }

pub joined_head : (before ks : List ℕ) → joined (halves before ++ ks) ≡ before ++ joined ks
joined_head before ks = let n = length-halves before in joined_append (halves before) ks (omega arith) ∙ rw (joined-halves before)

module _ {size at : ℕ} {hs out : List ℕ} (h : Holds size hs at out) where
  pub held_length : length (joined hs) ≡ aligned at / 2
  unfolding aligned
  held_length = let l = length-joined hs in let b = h.behind in omega arith

  pub held_size : length out ≡ size
  held_size = let z = length-sets (replicate size 0) 0 (joined hs) in let n = length-replicate {A = ℕ} size 0 in rw h.is (omega arith)

  joined_item : (os : List ℕ) → joined (hs ++ (pad at ++ halves os)) ≡ joined hs ++ os
  joined_item os =
      let n : length (hs ++ pad at) ≡ length hs + at % 2 = simp (length-append, length-pad) in
      rw (← append_assoc hs (pad at) (halves os), joined_append (hs ++ pad at) (halves os) (omega arith), joined_padded hs at (omega arith), joined-halves os)

  -- octets from the next whole octet on
  pub item_held : {r : ℕ} {out' os : List ℕ} → Puts out (aligned at / 2) r out' os → Holds size (hs ++ (pad at ++ halves os)) (2 * r) out'
  unfolding aligned
  item_held {r} {out'} {os} p =
      let l = held_length in
      let q : Puts (replicate size 0) 0 (aligned at / 2) out (joined hs) = record { behind = omega arith; is = h.is } in
      record {
        behind = simp (length-append, length-pad, length-halves) (omega arith);
        is = (puts_append q p).is ∙ rw (joined_item os);
        ends = λ o. absurd (omega arith);
      }

  end_even : {out' : List ℕ} → at % 2 ≡ 0 → out' ≡ set out (at / 2) 0xF0 → out' ≡ sets (replicate size 0) 0 (joined (hs ++ (15 ∷ [])))
  unfolding joined
  end_even z e =
      let n : at / 2 ≡ length hs / 2 = omega arith in
      rw (octet-more (replicate size 0) hs (15 ∷ []) 0xF0 (omega arith) refl, ← h.is, ← n) e

  end_odd : {out' : List ℕ} → at % 2 ≡ 1 → out' ≡ set out (at / 2) 0xFF → out' ≡ sets (replicate size 0) 0 (joined (hs ++ (15 ∷ [])))
  end_odd {out'} z e =
      let ks = (h.ends z).before in
      let n : length hs ≡ length ks + 1 = rw (h.ends z).is (simp length-append) in
      let m : at / 2 ≡ length ks / 2 = omega arith in
      e ∙ rw (h.is, m, (h.ends z).is, append_snoc) (octet_again (replicate size 0) ks (omega arith))

  pub end_held : {out' : List ℕ} → out' ≡ set out (at / 2) (end_octet at) → Holds size (hs ++ (15 ∷ [])) (at + 1) out'
  end_held {out'} e =
      record {
        behind = simp length-append (omega arith);
        is = elim (ℕ_discrete (at % 2) 0) [
          | yes z ↦ end_even z (rw (end_first at z) e)
          | no z ↦ let n : ¬ (at % 2 ≡ 0) = z in end_odd (omega arith) (rw (end_second at z) e)
        ];
        ends = λ o. record { before = hs; is = refl };
      }

-- the document's end, behind which the octet is filled up
pub document_end_held : {size at : ℕ} {hs out out' : List ℕ} → Holds size hs at out → out' ≡ set out (at / 2) (end_octet at) → Holds size (hs ++ (15 ∷ pad (suc at))) (aligned (suc at)) out'
unfolding aligned halves
document_end_held {at = at} h e =
    let n : 2 * (aligned (at + 1) / 2) ≡ aligned (at + 1) = omega arith in
    rw (append_snoc, append-nil, n, add-one at) at (item_held (end_held h e) (puts_nothing refl))

-- ---- an event's halves, by what is put for it

grown : {size at next : ℕ} {hs ks out out' : List ℕ} → Holds size hs at out → Holds size (hs ++ ks) next out' → Grown size hs ks at next out'
grown {at = at} {next = next} {hs = hs} {ks = ks} h g =
    let n : next ≡ at + length ks = g.behind ∙ simp length-append (omega arith) in
    record { holds = rw n at g; place = n }

module _ (text : List ℕ) (room : ℕ) (v : State Located) (e : E.Event Located) (w : WroteItem) {size at : ℕ} {hs out : List ℕ} (h : Holds size hs at out) where
  module _ (o : (is_listing v.mode && not (is_attribute e)) ≡ false) where
    pub end_written : {out' : List ℕ} → is_end e ≡ true → out' ≡ set out (at / 2) (end_octet at) → Grown size hs (halves_of link text room at v e w) at (at + 1) out'
    unfolding halves_of owed
    end_written i p = rw (o, i) (grown h (end_held h p))

    pub item_written : {r : ℕ} {out' : List ℕ} → is_end e ≡ false → Puts out (aligned at / 2) r out' w.octets → Grown size hs (halves_of link text room at v e w) at (2 * r) out'
    unfolding halves_of owed
    item_written i p = let z : at + 0 ≡ at = omega arith in rw (o, i, z) (grown h (item_held h p))

  -- the end of the attribute list is put before it
  module _ (o : (is_listing v.mode && not (is_attribute e)) ≡ true) {out₁ : List ℕ} (f : out₁ ≡ set out (at / 2) (end_octet at)) where
    pub end_written-behind_list : {out' : List ℕ} → is_end e ≡ true → out' ≡ set out₁ ((at + 1) / 2) (end_octet (at + 1))
        → Grown size hs (halves_of link text room at v e w) at (at + 1 + 1) out'
    unfolding halves_of owed
    end_written-behind_list i p = rw (o, i) (grown h (rw append_snoc at (end_held (end_held h f) p)))

    pub item_written-behind_list : {r : ℕ} {out' : List ℕ} → is_end e ≡ false → Puts out₁ (aligned (at + 1) / 2) r out' w.octets
        → Grown size hs (halves_of link text room at v e w) at (2 * r) out'
    unfolding halves_of owed
    item_written-behind_list i p = rw (o, i) (grown h (rw append_snoc at (item_held (end_held h f) p)))
