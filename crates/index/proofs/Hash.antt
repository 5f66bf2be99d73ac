-- A string's bucket by the octets where it stands.
-- Assumes nothing.
use mathlib.Core.Path.{◌≡◌, refl, sym, ap, ◌∙◌}
use mathlib.Core.Bool.{Bool, true, false}
use mathlib.Core.List.{List, [], ◌∷◌}
use lib.Dec.{ltb}
use Prim.Native.Nat.{min}
use Rattle.format.specs.Numbers.{pick}
use Rattle.format.specs.Tables.{Triple}
use Rattle.format.specs.declared.StringForm.{StringForm}
use Rattle.format.specs.declared.StringForm.TheVariants.{Utf8}
use Prim.Native.Nat.{ℕ, zero, suc, ◌+◌, ◌-◌, ◌*◌, ◌/◌, ◌≤◌, ◌<◌}
use native.Mathlib.Omega.{arith}
use native.Mathlib.Decide.{dec_lt}
use borrow.Author.Tests.{lt-ltb, le-ltb, ltb-true, ltb-false}
use Rattle.fields.proofs.Utf8.{told}
use lib.ListN.{length, get_or, set, take, drop}
use lib.Seq.{sets, length-sets, get_or-take, get_or-drop, take_all, take-take, drop-drop, length-take-le}
use Rattle.fields.specs.WeightContracts.{weight}
use Rattle.fields.specs.PutContracts.{Puts}
use Rattle.forms.specs.Reading.{said}
use Rattle.forms.specs.Streams as S
use Rattle.tables.specs.Located.{stretch, octets_of}
use Rattle.tables.proofs.Search.{length-octets}
use Rattle.tables.proofs.SaidLaws.{octets-part}
use Rattle.index.specs.Hash.{spread, part, blended, rolled, counted, bucket, name_bucket}

pub spread_lt : (h x : ℕ) → spread h x < 128
unfolding spread
spread_lt h x = omega arith

-- ---- what the first octets tell
first-octets : (n at k : ℕ) (l : List ℕ) → at + k ≤ n → take k (drop at (take n l)) ≡ take k (drop at l)
first-octets n zero k l h = take-take k n l (omega arith)
first-octets zero (suc at) k l h = absurd (omega arith)
first-octets (suc n) (suc at) k [] h = refl
first-octets (suc n) (suc at) k (x ∷ l) h = first-octets n at k l (omega arith)

part-first : (l : List ℕ) (n at k : ℕ) → at + k ≤ n → part (take n l) at k ≡ part l at k
unfolding part
part-first l n at k h = ap weight (first-octets n at k l h)

rolled-first : (l : List ℕ) (n k at x : ℕ) → at + 8 * k ≤ n → rolled (take n l) at k x ≡ rolled l at k x
unfolding rolled
rolled-first l n zero at x h = refl
rolled-first l n (suc k) at x h = rw (part-first l n at 8 (omega arith)) (rolled-first l n k (at + 8) _ (omega arith))

-- no more than 65 octets count
bucket-longer : (l : List ℕ) → 65 < length l → bucket (take 65 l) ≡ bucket l
unfolding bucket counted
bucket-longer l h =
    let n : length (take 65 l) ≡ 65 = length-take-le 65 l (omega arith) in
    rw (n, le-ltb (length l) 4 (omega arith), le-ltb (length l) 9 (omega arith), le-ltb (length l) 66 (omega arith), rolled-first l 65 8 0 0 (omega arith), part-first l 65 57 8 (omega arith))

pub bucket-first : (l : List ℕ) → bucket (take 65 l) ≡ bucket l
bucket-first l = elim (dec_lt 65 (length l)) [ yes h ↦ bucket-longer l h | no h ↦ ap bucket (take_all 65 l (omega arith)) ]

-- ---- a string where it stands
module _ (s : List ℕ) (place len : ℕ) (h : place + len ≤ length s) where
  octet_at : (i : ℕ) → i < len → get_or (octets_of s (stretch Utf8 place len)) i 0 ≡ get_or s (place + i) 0
  unfolding octets_of
  octet_at i l = get_or-take len (drop place s) i 0 l ∙ get_or-drop place s i 0

  part_at : (at k : ℕ) → at + k ≤ len → part (octets_of s (stretch Utf8 place len)) at k ≡ weight (take k (drop (place + at) s))
  unfolding octets_of part
  part_at at k l = part-first (drop place s) len at k l ∙ rw (drop-drop at place s)

  pub bucket_few : 1 ≤ len → len < 4
      → spread 0 (get_or s place 0 + 256 * get_or s (place + len / 2) 0 + 65536 * get_or s (place + (len - 1)) 0) ≡ bucket (octets_of s (stretch Utf8 place len))
  unfolding bucket
  bucket_few a b =
      let z : place + 0 ≡ place = omega arith in
      let first : get_or (octets_of s (stretch Utf8 place len)) 0 0 ≡ get_or s place 0 = (rw z at (octet_at 0 (omega arith))) in
      rw (length-octets s place len h, lt-ltb len 4 b, first, octet_at (len / 2) (omega arith), octet_at (len - 1) (omega arith))

  pub bucket_four : 4 ≤ len → len < 9
      → spread 0 (weight (take 4 (drop place s)) + 4294967296 * weight (take 4 (drop (place + (len - 4)) s))) ≡ bucket (octets_of s (stretch Utf8 place len))
  unfolding bucket
  bucket_four a b =
      let z : place + 0 ≡ place = omega arith in
      let first : part (octets_of s (stretch Utf8 place len)) 0 4 ≡ weight (take 4 (drop place s)) = (rw z at (part_at 0 4 (omega arith))) in
      rw (length-octets s place len h, le-ltb len 4 a, lt-ltb len 9 b, first, part_at (len - 4) 4 (omega arith))

  -- the loop: what is left from octet i on
  pub rolled_next : (i x w : ℕ) → 8 < len - i → rolled (octets_of s (stretch Utf8 place len)) i ((len - i - 1) / 8) x ≡ w
      → rolled (octets_of s (stretch Utf8 place len)) (i + 8) ((len - (i + 8) - 1) / 8) (blended x (weight (take 8 (drop (place + i) s)))) ≡ w
  unfolding rolled
  rolled_next i x w l e =
      let z : (len - i - 1) / 8 ≡ suc ((len - (i + 8) - 1) / 8) = omega arith in
      rw (← part_at i 8 (omega arith)) (rw z at e)

-- n octets count
counts : (s : List ℕ) (place len n : ℕ) → place + len ≤ length s → (len ≤ 65 → n ≡ len) → (65 < len → n ≡ 65) → counted (octets_of s (stretch Utf8 place len)) ≡ n
unfolding counted
counts s place len n h few many =
    rw (length-octets s place len h)
    elim (dec_lt 65 len) [
      | yes l ↦ rw (le-ltb len 66 (omega arith)) (sym (many l))
      | no l ↦ rw (lt-ltb len 66 (omega arith)) (sym (few (omega arith)))
    ]

pub bucket-counted : (s : List ℕ) (place len n r e : ℕ) → place + len ≤ length s → (9 ≤ n) × (n ≤ len) × (len ≤ 65 → n ≡ len) × (65 < len → n ≡ 65)
    → r ≡ rolled (octets_of s (stretch Utf8 place n)) 0 ((n - 1) / 8) 0 → e ≡ weight (take 8 (drop (place + (n - 8)) s)) → spread r e ≡ bucket (octets_of s (stretch Utf8 place len))
unfolding bucket octets_of
bucket-counted s place len n r e h m a b =
    let f = m.1 in
    rw (
      a,
      b,
      length-octets s place len h,
      le-ltb len 4 (omega arith),
      le-ltb len 9 (omega arith),
      counts s place len n h m.2 m.3,
      part_at s place len h (n - 8) 8 (omega arith),
      rolled-first (drop place s) n ((n - 1) / 8) 0 0 (omega arith),
      rolled-first (drop place s) len ((n - 1) / 8) 0 0 (omega arith),
    )

pub rolled_end : (l : List ℕ) (len i x w : ℕ) → len - i ≤ 8 → rolled l i ((len - i - 1) / 8) x ≡ w → x ≡ w
unfolding rolled
rolled_end l len i x w h e = let z : (len - i - 1) / 8 ≡ 0 = omega arith in rw z at e

pub rolled-start : (l : List ℕ) (len : ℕ) → rolled l 0 ((len - 0 - 1) / 8) 0 ≡ rolled l 0 ((len - 1) / 8) 0
rolled-start l len = let z : len - 0 - 1 ≡ len - 1 = omega arith in rw z

-- ---- a string of any form that was put in UTF-8, as far as there was room
put_behind : (x : ℕ) (l os : List ℕ) (i : ℕ) → sets (x ∷ l) (suc i) os ≡ x ∷ sets l i os
put_behind x l [] i = refl
put_behind x l (o ∷ os) i = put_behind x (set l i o) os (suc i)

put_first : (l os : List ℕ) (n : ℕ) → n ≤ length l → n ≤ length os → take n (sets l 0 os) ≡ take n os
put_first l os zero h k = refl
put_first [] os (suc n) h k = absurd (omega arith)
put_first (x ∷ l) [] (suc n) h k = absurd (omega arith)
put_first (x ∷ l) (o ∷ os) (suc n) h k = rw (put_behind o l os 0, put_first l os n (omega arith) (omega arith))

module _ (s : List ℕ) (f : StringForm) (place len : ℕ) (out then : List ℕ) (r : ℕ) (put : Puts out 0 r then (said f (S.part s place (place + len)))) where
  pub put_length : r ≡ length (octets_of s (stretch f place len))
  put_length = let b = put.behind in rw (octets-part s f place len) (omega arith)

  put_octets : (n : ℕ) → n ≤ length then → n ≤ r → octets_of then (stretch Utf8 0 n) ≡ take n (octets_of s (stretch f place len))
  unfolding octets_of
  put_octets n h k =
      let b = put.behind in
      let e : length then ≡ length out = ap length put.is ∙ length-sets out 0 (said f (S.part s place (place + len))) in
      rw (put.is, octets-part s f place len) (put_first out _ n (omega arith) (omega arith))

  bucket_put : r ≤ length then → bucket (octets_of then (stretch Utf8 0 r)) ≡ bucket (octets_of s (stretch f place len))
  bucket_put h = let l = put_length in ap bucket (put_octets r h (omega arith) ∙ take_all r _ (omega arith))

  bucket_put_first : 65 ≤ length then → 65 ≤ r → bucket (octets_of then (stretch Utf8 0 65)) ≡ bucket (octets_of s (stretch f place len))
  bucket_put_first h k = ap bucket (put_octets 65 h k) ∙ bucket-first _

  pub bucket_put_counted : 65 ≤ length then → (m : ℕ) → m ≡ min r 65 → bucket (octets_of then (stretch Utf8 0 m)) ≡ bucket (octets_of s (stretch f place len))
  bucket_put_counted h m e =
      told (ltb r 65)
      (λ t. let l = ltb-true r 65 t in let k : m ≡ r = omega arith in rw k (bucket_put (omega arith)))
      (λ t. let l = ltb-false r 65 t in let k : m ≡ 65 = omega arith in rw k (bucket_put_first h l))

-- ---- how many buckets
pick_lt : (b : Bool) (x y m : ℕ) → x < m → y < m → pick b x y < m
pick_lt true x y m h l = h
pick_lt false x y m h l = l

pub bucket_lt : (l : List ℕ) → bucket l < 128
unfolding bucket
bucket_lt l = pick_lt (ltb (length l) 4) _ _ 128 (spread_lt _ _) (pick_lt (ltb (length l) 9) _ _ 128 (spread_lt _ _) (spread_lt _ _))

pub name_bucket_lt : (x : Triple) → name_bucket x < 128
unfolding name_bucket
name_bucket_lt x = spread_lt _ _
