-- A field that starts at any bit, spelled behind any bits, is read back.
-- Assumes nothing.
use Rattle.std.proofs.Common.{◌≡◌, ℕ, ◌+◌, ◌-◌, ◌*◌, ◌%◌, ◌^◌, ◌<◌, ◌≤◌, List, [], ◌∷◌, ◌++◌, length, get_or, ap, ◌∙◌, arith, length-append, le-ltb, lt-ltb}
use lib.Seq.{get_or-append_seam}
use lib.Pow.{low}
use Rattle.format.specs.Numbers.{Form, spell, sizes}
use Rattle.fields.specs.Fields.{got, Share, share, field_at}
use Rattle.fields.proofs.Laws.{case, sizes_in, rooms_in, Roomy, spell_in, in_room, first_ge, read_spelled}
use Rattle.fields.proofs.Forms.{shares, rooms, Ordered, ordered_roomy, sizes_are, spell_is}

-- the first octet holds a value of the shares' room
room_first : (fs : List Share) (lead v : ℕ) → Roomy fs → v < sizes_in fs → get_or (spell_in fs lead v) 0 0 < lead + rooms_in fs
unfolding spell_in sizes_in rooms_in
room_first [] lead v ok h = absurd (omega arith)
room_first (share room more size ∷ fs) lead v ok h =
    case v size (λ y. let sp = in_room v room more size ok.0 y in rw (lt-ltb v size y) (omega arith))
    (λ n. rw (le-ltb v size n) (let i = room_first fs (lead + room) (v - size) ok.1 (omega arith) in omega arith))

-- something is written
some_in : (fs : List Share) (lead v : ℕ) → v < sizes_in fs → 0 < length (spell_in fs lead v)
unfolding spell_in sizes_in
some_in [] lead v h = absurd (omega arith)
some_in (share room more size ∷ fs) lead v h =
    case v size (λ y. rw (lt-ltb v size y) (omega arith)) (λ n. rw (le-ltb v size n) (some_in fs (lead + room) (v - size) (omega arith)))

-- the same of the forms
module _ (fs : List Form) (lead n : ℕ) (ok : Ordered fs) (p : 1 ≤ n) (h : n ≤ sizes fs) where
  pub some_first : 0 < length (spell fs lead n)
  some_first = let z = sizes_are fs in rw (spell_is fs lead n ok p) (some_in (shares fs) lead (n - 1) (omega arith))

  pub first-within : (lead ≤ get_or (spell fs lead n) 0 0) × (get_or (spell fs lead n) 0 0 < lead + rooms fs)
  first-within =
      let z = sizes_are fs in
      rw (spell_is fs lead n ok p) (first_ge (shares fs) lead (n - 1) (omega arith), room_first (shares fs) lead (n - 1) (ordered_roomy fs 0 1 ok) (omega arith))

get_d_after : (pre w rest : List ℕ) → 0 < length w → get_or (pre ++ (w ++ rest)) (length pre) 0 ≡ get_or w 0 0
get_d_after pre [] rest h = absurd (omega arith)
get_d_after pre (x ∷ w) rest h = get_or-append_seam pre x (w ++ rest) 0

-- a number, spelled behind the bits `lead`, is read back, whatever stands before and behind
pub field_write : (fs : List Form) (top bit lead n : ℕ) (pre rest : List ℕ) → Ordered fs → rooms fs ≤ 2 ^ (9 - bit) → 1 ≤ n → n ≤ sizes fs → n ≤ top
    → field_at fs top bit (pre ++ (spell fs (lead * 2 ^ (9 - bit)) n ++ rest)) (length pre)
    ≡ got n (length pre + length (spell fs (lead * 2 ^ (9 - bit)) n))
unfolding field_at
field_write fs top bit lead n pre rest ok r p h t =
    let values : ℕ = 2 ^ (9 - bit) in
    let held : ℕ = lead * values in
    let w : List ℕ = spell fs held n in
    let some = some_first fs held n ok p h in
    let b = first-within fs held n ok p h in
    let x : ℕ = get_or w 0 0 - held in
    let xs : x < values = omega arith in
    let e : get_or w 0 0 ≡ held + x = omega arith in
    let m : get_or (pre ++ (w ++ rest)) (length pre) 0 % values ≡ x = ap (λ (k : ℕ). k % values) (get_d_after pre w rest some ∙ e) ∙ low lead (9 - bit) xs in
    let len : length (pre ++ (w ++ rest)) ≡ length pre + (length w + length rest) = simp length-append in
    let l : length pre < length (pre ++ (w ++ rest)) = omega arith in
    let z = sizes_are fs in
    let one : 1 + (n - 1) ≡ n = omega arith in
    rw (lt-ltb _ _ l, m, spell_is fs held n ok p) (rw one at (read_spelled (shares fs) top 1 held (n - 1) pre rest (ordered_roomy fs 0 1 ok) (omega arith) (omega arith)))
