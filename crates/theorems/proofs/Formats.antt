-- Spelled strings of C.19 and C.20, in every form: what is read is what the rules write, and what they write is read.
use mathlib.Core.Path.{◌≡◌, refl, sym, ap, ap₂, ◌∙◌}
use mathlib.Core.Bool.{Bool, true, false, not, ◌||◌}
use mathlib.Core.List.{List, ◌∷◌, ◌++◌}
use Prim.Native.Nat.{ℕ, suc, ◌+◌, ◌-◌, ◌*◌, ◌/◌, ◌%◌, ◌^◌, ◌≤◌, ◌<◌}
use native.Mathlib.Nat.{add-mul, mul-le-mul_right, div-add-mod', le-div_iff_mul-le, div-lt_iff_lt-mul, div-eq_of_lt-le, mul-mod_left}
use native.Mathlib.Omega.{arith}
use borrow.Author.Tests.{lt-ltb, ltb-true, ne_eqb}
use lib.Dec.{ltb}
use lib.ListN.{length, get_or, take, drop, length-append}
use lib.Pow.{pow_pos}
use lib.Seq.{drop-cons}
use Rattle.format.specs.Octets.{Octets, AreOctets}
use Rattle.format.specs.Numbers.{Form, sizes, lengths, longest}
use Rattle.format.specs.Forms.{form_of}
use Rattle.format.specs.Events.{spelled}
use Rattle.format.specs.Tables.{StringTable, Vocabulary, strings, Version}
use Rattle.format.specs.Strings.{with_length, Spelling, in_format, keeping}
use Rattle.format.specs.declared.StringForm.{StringForm}
use Rattle.format.specs.declared.StringForm.TheVariants.{Utf8, Utf16, Numeric, Dates, Short, Int, Long}
use Rattle.std.specs.Prelude.{Result}
use Rattle.format.specs.declared.refusals.Fault.{Fault as NumFault}
use Rattle.fields.specs.declared.Read.{Read}
use Rattle.fields.specs.Fields as F
use Rattle.fields.specs.Fields.{field_at, no_top}
use Rattle.fields.proofs.Laws.{rooms_in}
use Rattle.fields.proofs.Forms.{rooms}
use Rattle.fields.proofs.Lengths.{lengths_are, lengths_ordered}
use Rattle.tables.specs.Located.{Located, stretch, octets_of}
use Rattle.read_names.specs.Strings.{Got, got, refused, StringRead, method_at, form_by, method_length, formed_at, spelled_at}
use Rattle.theorems.proofs.Lists.{Fault, fault, test, either_eq, drop_head}
use Rattle.theorems.proofs.Numbers.{NumRead, Told, num_sound}
use Rattle.theorems.proofs.Fields.{on_told, Stands, spelling_sound, Spelt, spelt, says, spelling_is}
use Rattle.theorems.proofs.Methods.{powers, Method, alphabet_1, alphabet_2, algorithm_3, algorithm_4, algorithm_5, read_method, method_read, LengthRead, method_sound, method_is, method_complete}

-- ---- the format: two bits of the octet o, behind others; u is what the bits behind it can hold
module _ (o L f u : ℕ) (p : 0 < u) where
  format_sound : 4 * L * u ≤ o → o < 4 * L * u + 4 * u → o / u % 4 ≡ f → o ≡ 4 * L * u + f * u + o % u
  format_sound lo hi e =
      let m = add-mul (4 * L) 4 u in
      let n = add-mul (4 * L) f u in
      let a = (le-div_iff_mul-le {k = u} {x = 4 * L} {y = o} p).1 lo in
      let b = (div-lt_iff_lt-mul {k = u} {x = o} {y = 4 * L + 4} p).1 (omega arith) in
      let c : o / u ≡ 4 * L + f = omega arith in
      sym (div-add-mod' o u) ∙ ap (λ (q : ℕ). q * u + o % u) c ∙ ap (λ (q : ℕ). q + o % u) n

  format_complete : f < 4 → 4 * L * u + f * u ≤ o → o < 4 * L * u + f * u + u → o / u % 4 ≡ f
  format_complete h lo hi =
      let n = add-mul (4 * L) f u in
      let m = add-mul (4 * L + f) 1 u in
      let d = div-eq_of_lt-le {k = 4 * L + f} u {m = o} (omega arith) (omega arith) in
      rw d (omega arith)

-- what stands in an octet before the format, where the length behind the format starts at this bit
pub record Leads (bit base : ℕ) : Type 0 where
  pub from : 5 ≤ bit
  pub to : bit ≤ 7
  pub lead : ℕ
  pub base_is : base ≡ 4 * lead * 2 ^ (9 - bit)

-- every length has its octets, wherever they start, and its first octet's bits hold it
pub long_enough : (bit : ℕ) → longest ≤ sizes (lengths bit)
unfolding sizes lengths
long_enough bit = omega arith

rooms_fit : (bit : ℕ) → 5 ≤ bit → bit ≤ 7 → rooms (lengths bit) ≤ 2 ^ (9 - bit)
unfolding rooms_in
rooms_fit bit l u =
    let p = powers bit l u in
    let last : 2 ^ (8 - (bit + 1)) ≡ 2 ^ (7 - bit) = ap (λ (n : ℕ). 2 ^ n) (omega arith) in
    rw (lengths_are bit (omega arith) u) (omega arith)

-- a field is longer than its string's octets
length-longer : (bit lead : ℕ) (y : Octets) → length y ≤ length (with_length (lengths bit) lead y)
length-longer bit lead y = simp length-append (omega arith)

pub field_longer : (bit : ℕ) (form : StringForm) (lead : ℕ) (y : Octets) → length y ≤ length (in_format bit form lead y)
unfolding in_format
field_longer bit Utf8 lead y = length-longer bit lead y
field_longer bit Utf16 lead y = length-longer bit (lead + 2 ^ (9 - bit)) y
field_longer bit Numeric lead y = let l = length-longer bit 0 y in omega arith
field_longer bit Dates lead y = let l = length-longer bit (2 ^ (9 - bit)) y in omega arith
field_longer bit Short lead y = let l = length-longer bit (2 * 2 ^ (9 - bit)) y in omega arith
field_longer bit Int lead y = let l = length-longer bit (3 * 2 ^ (9 - bit)) y in omega arith
field_longer bit Long lead y = let l = length-longer bit (4 * 2 ^ (9 - bit)) y in omega arith

-- what the rules write of a string in an alphabet or by an algorithm
method_field : {f a : ℕ} → Method f a → (bit lead : ℕ) (y : Octets) → in_format bit (form_by a) lead y ≡ (lead + f * 2 ^ (9 - bit)) ∷ with_length (lengths bit) (a * 2 ^ (9 - bit)) y
unfolding in_format form_by form_of
method_field alphabet_1 bit lead y = ap (λ (n : ℕ). (lead + 2 * 2 ^ (9 - bit)) ∷ with_length (lengths bit) n y) (omega arith)
method_field alphabet_2 bit lead y = ap (λ (n : ℕ). (lead + 2 * 2 ^ (9 - bit)) ∷ with_length (lengths bit) n y) (omega arith)
method_field algorithm_3 bit lead y = refl
method_field algorithm_4 bit lead y = refl
method_field algorithm_5 bit lead y = refl

or_true : (a b : Bool) → (not a || b) ≡ true → a ≡ true → b ≡ true
or_true true b e f = e
or_true false b e f = let z : false ≡ true = f in cc

or_room : (added : Bool) (a b : ℕ) → (added ≡ true → a < b) → (not added || ltb a b) ≡ true
or_room true a b f = lt-ltb a b (f refl)
or_room false a b f = refl

module _ (ver : Version) (s : Octets) (t : StringTable) (k : ℕ) (added : Bool) (v : Vocabulary Located) where
  -- n octets from `place` on, in this form, are read
  abbrev pub reads : StringForm → (place n : ℕ) → Got StringRead
  reads form place n = got (record { string = stretch form place n; how = spelled form added }) (place + n) (keeping added v t (stretch form place n))

  abbrev pub HasRoom : Type 0
  HasRoom = added ≡ true → length (strings v t) < ver.entries

  -- ---- sound
  module _ (bytes : AreOctets s) (short : length s ≤ longest) (kl : k ≤ length s) (P : Got StringRead → Type 0) (nay : (c p : ℕ) → Fault s c p → P (refused c p)) where
    -- of its length, which stands at j, Q is told
    formed_sound : (form : StringForm) (fs : List Form) (base j : ℕ) (Q : ℕ → ℕ → Type 0) → ((n place : ℕ) → Q n place → NumRead s fs no_top base j n place) → (a : Result (Read ℕ) NumFault) → Told s Q a
        → ((n place : ℕ) → Q n place → Stands s form (with_length fs base) j place n → HasRoom → P (reads form place n)) → P (formed_at ver form s t k added a v)
    unfolding formed_at
    formed_sound form fs base j Q h a r g =
        on_told s P nay Q a r _
        λ n place q. spelling_sound s short P nay form fs base k j n place kl (h n place q) _
        λ st. test P (refused 12 k) (nay 12 k (fault s 12 k refl kl)) (not added || ltb (length (strings v t)) ver.entries) _
        λ t1. g n place q st (λ y. ltb-true (length (strings v t)) ver.entries (or_true added (ltb (length (strings v t)) ver.entries) t1 y))

    module _ (bit base : ℕ) (g : Leads bit base) (lo : base ≤ get_or s k 0) (hi : get_or s k 0 < base + 4 * 2 ^ (9 - bit)) where
      -- utf-8 and utf-16, behind the format's number
      plain_sound : (form : StringForm) (f : ℕ) → get_or s k 0 / 2 ^ (9 - bit) % 4 ≡ f
          → ((n place : ℕ) → Stands s form (with_length (lengths bit) (base + f * 2 ^ (9 - bit))) k place n → HasRoom → P (reads form place n))
          → P (formed_at ver form s t k added (field_at (lengths bit) no_top bit s k) v)
      plain_sound form f e h =
          let b : ℕ = base + f * 2 ^ (9 - bit) in
          let i = g.base_is in
          let z = format_sound (get_or s k 0) g.lead f (2 ^ (9 - bit)) (pow_pos (9 - bit)) (omega arith) (omega arith) e in
          formed_sound form (lengths bit) b k (NumRead s (lengths bit) no_top b k) (λ n place q. q) (field_at (lengths bit) no_top bit s k)
          (num_sound s bytes (lengths bit) (lengths_ordered bit (omega arith) g.to) no_top bit b k kl (omega arith))
          λ n place q st r. h n place st r

      -- an alphabet or an algorithm
      method_read_sound : (f : ℕ) → 2 ≤ f → f < 4 → get_or s k 0 / 2 ^ (9 - bit) % 4 ≡ f
          → ((form : StringForm) (n place : ℕ) → Stands s form (in_format bit form base) k place n → HasRoom → P (reads form place n))
          → P (formed_at ver (form_by (method_at bit s k)) s t k added (method_length bit f s k (get_or s (suc k) 0 % 2 ^ (9 - bit))) v)
      method_read_sound f from to e h =
          let a : ℕ = method_at bit s k in
          let form : StringForm = form_by a in
          let i = g.base_is in
          let z = format_sound (get_or s k 0) g.lead f (2 ^ (9 - bit)) (pow_pos (9 - bit)) (omega arith) (omega arith) e in
          formed_sound form (lengths bit) (a * 2 ^ (9 - bit)) (suc k) (LengthRead s bit f g.from g.to k) (λ n place q. q.reads) _
          (method_sound s bit f g.from g.to k bytes from to kl)
          λ n place q st r.
          let y : Octets = take n (drop place s) in
          let w : in_format bit form base y ≡ (base + f * 2 ^ (9 - bit)) ∷ with_length (lengths bit) (a * 2 ^ (9 - bit)) y = method_field (read_method f a from to q.known) bit base y in
          let o : get_or s k 0 ≡ base + f * 2 ^ (9 - bit) = (let f = q.first in omega arith) in
          let nx = q.reads.next_is in
          let ins = q.reads.inside in
          h form n place
          (record {
            spelling = st.spelling;
            length_is = st.length_is;
            here = rw w (drop-cons s k 0 (omega arith) ∙ ap₂ (λ (b : ℕ) (l : Octets). b ∷ l) o st.here);
            next_is = rw w (let m = st.next_is in omega arith);
            inside = st.inside;
          }) r

      pub spelled_sound : ((form : StringForm) (n place : ℕ) → Stands s form (in_format bit form base) k place n → HasRoom → P (reads form place n)) → P (spelled_at ver bit s t k added v)
      unfolding spelled_at in_format
      spelled_sound h =
          let format : ℕ = get_or s k 0 / 2 ^ (9 - bit) % 4 in
          let none : base + 0 * 2 ^ (9 - bit) ≡ base = omega arith in
          let one : base + 1 * 2 ^ (9 - bit) ≡ base + 2 ^ (9 - bit) = omega arith in
          either_eq P format 0 _ _ (λ e. plain_sound Utf8 0 e (λ n place st r. h Utf8 n place (rw none at st) r))
          λ n0. either_eq P format 1 _ _ (λ e. plain_sound Utf16 1 e (λ n place st r. h Utf16 n place (rw one at st) r))
          λ n1. method_read_sound format (omega arith) (omega arith) refl h

  -- ---- complete
  -- the string x, spelled as the octets y, is read: its octets stand from `place` on, at the end of its field
  pub record SpelledHit (bit base : ℕ) (form : StringForm) (x y : Octets) : Type 0 where
    pub place : ℕ
    pub goes : spelled_at ver bit s t k added v ≡ reads form place (length y)
    pub saying : octets_of s (stretch form place (length y)) ≡ x
    pub end_is : place + length y ≡ k + length (in_format bit form base y)
    pub low : base ≤ get_or s k 0
    pub high : get_or s k 0 < base + 4 * 2 ^ (9 - bit)
    pub here : k < length s

  module _ (room : HasRoom) (bit base : ℕ) (g : Leads bit base) {x : Octets} (y rest : Octets) where
    -- its octets y from `place` on
    formed_complete : (form : StringForm) (place : ℕ) → Spelling form x y → take (length y) (drop place s) ≡ y → place + length y ≤ length s
        → formed_at ver form s t k added (F.got (length y) place) v ≡ reads form place (length y)
    unfolding formed_at
    formed_complete form place sp e r = rw (spelling_is s form place x y e sp.formed k _ r, or_room added (length (strings v t)) ver.entries room)

    length_at : (form : StringForm) (lead b j : ℕ) → b ≡ lead * 2 ^ (9 - bit) → Spelling form x y → drop j s ≡ with_length (lengths bit) b y ++ rest → Spelt s (lengths bit) bit b j y
    length_at form lead b j e sp d = spelt s (lengths bit) bit lead b j y rest (lengths_ordered bit (let l = g.from in omega arith) g.to) (rooms_fit bit g.from g.to) (long_enough bit) e sp d

    plain_complete : (form : StringForm) (f : ℕ) → f < 4 → Spelling form x y → (e : Spelt s (lengths bit) bit (base + f * 2 ^ (9 - bit)) k y)
        → in_format bit form base y ≡ with_length (lengths bit) (base + f * 2 ^ (9 - bit)) y
        → (get_or s k 0 / 2 ^ (9 - bit) % 4 ≡ f → spelled_at ver bit s t k added v ≡ formed_at ver form s t k added (field_at (lengths bit) no_top bit s k) v) → SpelledHit bit base form x y
    plain_complete form f h sp e w by =
        let i = g.base_is in
        let lo = e.low in
        let hi = e.high in
        let fit = rooms_fit bit g.from g.to in
        let m = mul-le-mul_right {m = f + 1} {n = 4} (2 ^ (9 - bit)) (omega arith) in
        let n = add-mul f 1 (2 ^ (9 - bit)) in
        let z = format_complete (get_or s k 0) g.lead f (2 ^ (9 - bit)) (pow_pos (9 - bit)) h (omega arith) (omega arith) in
        record {
          place = e.next;
          goes = by z ∙ rw e.num (formed_complete form e.next sp e.octets_are e.room);
          saying = says s form e.next x y e.octets_are sp.formed;
          end_is = rw w e.end_is;
          low = omega arith;
          high = omega arith;
          here = e.here;
        }

    method_hit : {f a : ℕ} → Method f a → Spelling (form_by a) x y → drop k s ≡ in_format bit (form_by a) base y ++ rest → SpelledHit bit base (form_by a) x y
    unfolding spelled_at
    method_hit {f} {a} q sp d =
        let form : StringForm = form_by a in
        let known = method_read q in
        let i = g.base_is in
        let w = method_field q bit base y in
        let c = drop_head s k (base + f * 2 ^ (9 - bit)) (with_length (lengths bit) (a * 2 ^ (9 - bit)) y ++ rest) (d ∙ ap (λ (l : Octets). l ++ rest) w) in
        let o = c.1 in
        let e = length_at form a (a * 2 ^ (9 - bit)) (suc k) refl sp c.2 in
        let fit = rooms_fit bit g.from g.to in
        let m = add-mul (4 * g.lead) f (2 ^ (9 - bit)) in
        let few = mul-le-mul_right {m = f + 1} {n = 4} (2 ^ (9 - bit)) (let h = known.2 in omega arith) in
        let more = add-mul f 1 (2 ^ (9 - bit)) in
        let p = pow_pos (9 - bit) in
        let z = format_complete (get_or s k 0) g.lead f (2 ^ (9 - bit)) p known.2 (omega arith) (omega arith) in
        let first : get_or s k 0 % 2 ^ (9 - bit) ≡ 0 = (let r : get_or s k 0 ≡ (4 * g.lead + f) * 2 ^ (9 - bit) = omega arith in rw r (mul-mod_left (4 * g.lead + f) (2 ^ (9 - bit)))) in
        let is = method_is s bit f g.from g.to k a first e.low (omega arith) in
        let num = method_complete s bit f g.from g.to k (length y) e.next e.num (rw is known.0) e.room in
        record {
          place = e.next;
          goes = rw (z, ne_eqb f 0 (λ n. let l = known.1 in omega arith), ne_eqb f 1 (λ n. let l = known.1 in omega arith), is, num) (formed_complete form e.next sp e.octets_are e.room);
          saying = says s form e.next x y e.octets_are sp.formed;
          end_is = let end = e.end_is in let long = ap length w in omega arith;
          low = omega arith;
          high = omega arith;
          here = c.0;
        }

    pub spelled_complete : (form : StringForm) → Spelling form x y → drop k s ≡ in_format bit form base y ++ rest → SpelledHit bit base form x y
    unfolding spelled_at in_format form_of form_by
    spelled_complete Utf8 sp d = let z : base + 0 * 2 ^ (9 - bit) ≡ base = omega arith in plain_complete Utf8 0 (omega arith) sp (rw z (length_at Utf8 (4 * g.lead) base k g.base_is sp d)) (rw z) (λ f. rw f)
    spelled_complete Utf16 sp d =
        let z : base + 1 * 2 ^ (9 - bit) ≡ base + 2 ^ (9 - bit) = omega arith in
        let m = add-mul (4 * g.lead) 1 (2 ^ (9 - bit)) in
        let i = g.base_is in
        plain_complete Utf16 1 (omega arith) sp (rw z (length_at Utf16 (4 * g.lead + 1) (base + 2 ^ (9 - bit)) k (omega arith) sp d)) (rw z) (λ f. rw f)
    spelled_complete Numeric sp d = method_hit alphabet_1 sp d
    spelled_complete Dates sp d = method_hit alphabet_2 sp d
    spelled_complete Short sp d = method_hit algorithm_3 sp d
    spelled_complete Int sp d = method_hit algorithm_4 sp d
    spelled_complete Long sp d = method_hit algorithm_5 sp d
