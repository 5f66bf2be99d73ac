-- What `spell` writes, by the form that has the value; and how many octets that is at most.
-- Assumes nothing.
use Rattle.std.proofs.Common.{◌≡◌, ℕ, zero, suc, ◌+◌, ◌-◌, ◌*◌, ◌/◌, ◌^◌, ◌<◌, ◌≤◌, List, [], ◌∷◌, map, length, take, drop, refl, ap, ◌∙◌, arith, le-ltb, lt-ltb}
use Rattle.format.specs.Numbers.{Form, octets, spell}
use Rattle.fields.specs.Fields.{Share, share, share_of}
use Rattle.fields.specs.PutContracts.{Puts}
use Rattle.fields.proofs.Laws.{case, sizes_in, rooms_in, spell_in, octets-length}
use Rattle.fields.proofs.Forms.{Ordered, spell_is}
use Rattle.fields.proofs.FirstOctet.{doubled}
use Rattle.fields.proofs.Lengths.{half}

-- behind the first octet each share has at most m
abbrev pub AtMost : ℕ → List Share → Type 0
AtMost m [] = Unit {0}
AtMost m (share room more size ∷ fs) = (more ≤ m) × AtMost m fs

spell-most : (m : ℕ) (fs : List Share) (lead v : ℕ) → AtMost m fs → length (spell_in fs lead v) ≤ m + 1
unfolding spell_in
spell-most m [] lead v k = omega arith
spell-most m (share room more size ∷ fs) lead v k =
    case v size (λ y. rw (lt-ltb v size y) (let n = octets-length more v in omega arith))
    (λ n. rw (le-ltb v size n) (spell-most m fs (lead + room) (v - size) k.1))

-- k shares are passed over
passed : (k : ℕ) (fs : List Share) (lead v w : ℕ) → v ≡ sizes_in (take k fs) + w → spell_in fs lead v ≡ spell_in (drop k fs) (lead + rooms_in (take k fs)) w
unfolding spell_in sizes_in rooms_in
passed zero fs lead v w e =
    let k : v ≡ w = omega arith in
    let l : lead + 0 ≡ lead = omega arith in
    rw (k, l)
passed (suc k) [] lead v w e = refl
passed (suc k) (share room more size ∷ fs) lead v w e =
    let n : size ≤ v = omega arith in
    let l : lead + (room + rooms_in (take k fs)) ≡ lead + room + rooms_in (take k fs) = omega arith in
    rw (le-ltb _ _ n, l) (passed k fs (lead + room) (v - size) w (omega arith))

-- form k holds the number less the lowest of its range
pub puts_form : (m : ℕ) (fs : List Form) (gs : List Share) → Ordered fs → map share_of fs ≡ gs → AtMost m gs → (k : ℕ) {room more size : ℕ} {ss : List Share}
    → drop k gs ≡ share room more size ∷ ss → (lead n w b : ℕ) → n ≡ suc (sizes_in (take k gs) + w) → w < size → b ≡ lead + rooms_in (take k gs)
    → {out out' : List ℕ} {at r : ℕ} → Puts out at r out' ((b + w / 256 ^ more) ∷ octets more w)
    → Puts out at r out' (spell fs lead n) × (r ≤ at + (m + 1))
unfolding spell_in
puts_form m fs gs ok are a k {more = more} d lead n w b e h f p =
    let v : ℕ = sizes_in (take k gs) + w in
    let o : n - 1 ≡ v = omega arith in
    let i : spell fs lead n ≡ spell_in gs lead v = rw (spell_is fs lead n ok (omega arith), are, o) in
    let t : spell fs lead n ≡ (b + w / 256 ^ more) ∷ octets more w = i ∙ rw (passed k gs lead v w refl, d, lt-ltb _ _ h, f) in
    let l = spell-most m gs lead v a in
    let j = ap length i in
    let q = rw (← t) at p in
    (q, let y = q.behind in omega arith)

-- how many values the field's bits of the first octet have, and how many of them stand behind each code of a length
pub length_values : (bit : ℕ) → bit ≤ 7 → (2 ^ (9 - bit) ≡ 2 * 2 ^ (8 - bit)) × (2 ^ (8 - bit) ≡ 2 * 2 ^ (8 - (bit + 1))) × (1 ≤ 2 ^ (8 - (bit + 1)))
length_values bit u = (doubled (9 - bit) (8 - bit) (omega arith), (half bit u).0, (half bit u).1)
