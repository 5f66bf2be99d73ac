-- What a field's answer means: if it reads, its octets are those that its rule writes (sound); what its rule writes, it reads (complete).
use mathlib.Core.Path.{◌≡◌, refl, sym, ap, ap₂, ◌∙◌, subst}
use mathlib.Core.List.{List, ◌++◌, append_assoc}
use Prim.Native.Nat.{ℕ, ◌+◌, ◌-◌, ◌*◌, ◌^◌, ◌≤◌, ◌<◌}
use native.Mathlib.Omega.{arith}
use borrow.Author.Tests.{le-leb}
use lib.ListN.{length, get_or, take, drop, length-append}
use Rattle.format.specs.Octets.{Octets}
use Rattle.format.specs.Numbers.{Form, spell, sizes, longest}
use Rattle.format.specs.Forms.{Spelled}
use Rattle.format.specs.Tables.{Vocabulary}
use Rattle.format.specs.Strings.{with_length, Spelling}
use Rattle.format.specs.declared.StringForm.{StringForm}
use Rattle.std.specs.Prelude.{Result, Ok as Num, Err as NoNum}
use Rattle.format.specs.Refusals.{refusal_number}
use Rattle.format.specs.declared.refusals.Fault.{Fault as NumFault}
use Rattle.fields.specs.declared.Read.{Read}
use Rattle.fields.specs.Fields as F
use Rattle.fields.specs.Fields.{field_at, no_top}
use Rattle.fields.specs.Utf8.{is_text}
use Rattle.fields.proofs.Forms.{rooms, Ordered}
use Rattle.fields.proofs.Puts.{part_length}
use Rattle.forms.proofs.Forms.{spelled_said, spelled_text, said_spelled}
use Rattle.tables.specs.Located.{Located, stretch, octets_of, plain_tables}
use Rattle.tables.proofs.Search.{octets_stretch}
use Rattle.read_names.specs.Strings.{Got, got, refused, then, number, spelling}
use Rattle.read_items.specs.Items.{Step, stop, into}
use Rattle.theorems.proofs.Lists.{Fault, fault, test, test_le, stretch_sound, stretch_complete, drop_past}
use Rattle.theorems.proofs.Numbers.{NumRead, NumOk, Told, num_complete, num_first}

-- ---- sound
module _ (s : Octets) where
  -- from octet k, where v is known, b has been read, up to the octet `next`, and w is known then
  pub record FieldRead {B : Type 0} (R : Vocabulary Octets → B → Octets → Vocabulary Octets → Type 0) (k : ℕ) (v : Vocabulary Located) (b : B) (next : ℕ) (w : Vocabulary Located) : Type 0 where
    pub octets : Octets
    pub rule : R (plain_tables s v) b octets (plain_tables s w)
    pub here : drop k s ≡ octets ++ drop next s
    pub next_is : next ≡ k + length octets
    pub inside : next ≤ length s

  abbrev pub Ok : {B : Type 0} → (Vocabulary Octets → B → Octets → Vocabulary Octets → Type 0) → ℕ → Vocabulary Located → Got B → Type 0
  Ok R k v (got b next w) = FieldRead R k v b next w
  Ok R k v (refused n p) = Fault s n p

  -- a number of which Q is told, then the rest
  pub on_told : {C : Type 0} (P : Got C → Type 0) → ((c p : ℕ) → Fault s c p → P (refused c p)) → (Q : ℕ → ℕ → Type 0) (a : Result (Read ℕ) NumFault) → Told s Q a
      → (f : ℕ → ℕ → Got C) → ((n next : ℕ) → Q n next → P (f n next)) → P (number a f)
  on_told P nay Q (Num a) r f g = g a.value a.next.at r
  on_told P nay Q (NoNum e) r f g = nay (refusal_number e.refusal) e.at r

  pub on_number : {C : Type 0} (P : Got C → Type 0) → ((c p : ℕ) → Fault s c p → P (refused c p)) → (fs : List Form) (top base k : ℕ) (a : Result (Read ℕ) NumFault) → NumOk s fs top base k a
      → (f : ℕ → ℕ → Got C) → ((n next : ℕ) → NumRead s fs top base k n next → P (f n next)) → P (number a f)
  on_number P nay fs top base k a r f g = on_told P nay (NumRead s fs top base k) a r f g

  -- a field, then the rest
  pub on_field : {B C : Type 0} (P : Got C → Type 0) → ((c p : ℕ) → Fault s c p → P (refused c p)) → (R : Vocabulary Octets → B → Octets → Vocabulary Octets → Type 0) (k : ℕ) (v : Vocabulary Located)
      (a : Got B) → Ok R k v a → (f : B → ℕ → Vocabulary Located → Got C) → ((b : B) (next : ℕ) (w : Vocabulary Located) → FieldRead R k v b next w → P (f b next w)) → P (then a f)
  on_field P nay R k v (got b next w) r f g = g b next w r
  on_field P nay R k v (refused c p) r f g = nay c p r

  pub in_step : {B : Type 0} (P : Step → Type 0) → ((c p : ℕ) → Fault s c p → P (stop c p)) → (R : Vocabulary Octets → B → Octets → Vocabulary Octets → Type 0) (k : ℕ) (v : Vocabulary Located)
      (a : Got B) → Ok R k v a → (f : B → ℕ → Vocabulary Located → Step) → ((b : B) (next : ℕ) (w : Vocabulary Located) → FieldRead R k v b next w → P (f b next w)) → P (into a f)
  in_step P nay R k v (got b next w) r f g = g b next w r
  in_step P nay R k v (refused c p) r f g = nay c p r

  -- n octets from `place` on are a string in this form, and the end of a field at k, which is `field` of them
  pub record Stands (form : StringForm) (field : Octets → Octets) (k place n : ℕ) : Type 0 where
    pub spelling : Spelling form (octets_of s (stretch form place n)) (take n (drop place s))
    pub length_is : length (take n (drop place s)) ≡ n
    pub here : drop k s ≡ field (take n (drop place s)) ++ drop (place + n) s
    pub next_is : place + n ≡ k + length (field (take n (drop place s)))
    pub inside : place + n ≤ length s

  -- a length that stands at j and a string: the length's octets and then the string's. A refusal is at k
  pub spelling_sound : length s ≤ longest → {C : Type 0} (P : Got C → Type 0) → ((c p : ℕ) → Fault s c p → P (refused c p)) → (form : StringForm) (fs : List Form) (base k j n place : ℕ) → k ≤ length s
      → NumRead s fs no_top base j n place → (a : Got C) → (Stands form (with_length fs base) j place n → P a) → P (spelling form s k place n a)
  unfolding spelling
  spelling_sound short P nay form fs base k j n place kl r a f =
      test_le P (refused 2 k) (nay 2 k (fault s 2 k refl kl)) (place + n) (length s) _
      λ t1. test P (refused 9 k) (nay 9 k (fault s 9 k refl kl)) (is_text (octets_of s (stretch form place n))) _
      λ t2.
      let y : Octets = take n (drop place s) in
      let l : length y ≡ n = part_length s place n t1 in
      let e = octets_stretch s form place n in
      let h : drop j s ≡ (spell fs base (length y) ++ y) ++ drop (place + n) s =
      r.here ∙ ap₂ (λ (u : ℕ) (z : Octets). spell fs base u ++ z) (sym l) (stretch_sound s place n)
      ∙ sym (append_assoc (spell fs base (length y)) y (drop (place + n) s)) in
      let zw = ap (λ (u : ℕ). length (spell fs base u)) l in
      let la = length-append (spell fs base (length y)) y in
      f
      (record {
        spelling = record { some = omega arith; fits = omega arith; formed = rw e (said_spelled form y (rw e at t2)) };
        length_is = l;
        here = h;
        next_is = omega arith;
        inside = t1;
      })

-- ---- complete
module _ (s : Octets) where
  -- a field's answer g: what it read is Q, up to the octet `next`, and the tables then are w
  pub record Hit {B : Type 0} (Q : B → Type 0) (next : ℕ) (w : Vocabulary Octets) (g : Got B) : Type 0 where
    pub b : B
    pub v : Vocabulary Located
    pub goes : g ≡ got b next v
    pub state : plain_tables s v ≡ w
    pub what : Q b

  pub hit_at : {B : Type 0} (Q : B → Type 0) (a b : ℕ) (w : Vocabulary Octets) (g : Got B) → a ≡ b → Hit Q a w g → Hit Q b w g
  hit_at Q a b w g p h = subst (λ (x : ℕ). Hit Q x w g) p h

  -- a length and the octets y stand at k, behind the bits `base` of the first octet
  pub record Spelt (fs : List Form) (bit base k : ℕ) (y : Octets) : Type 0 where
    pub next : ℕ
    pub num : field_at fs no_top bit s k ≡ F.got (length y) next
    pub octets_are : take (length y) (drop next s) ≡ y
    pub room : next + length y ≤ length s
    pub end_is : next + length y ≡ k + length (with_length fs base y)
    pub low : base ≤ get_or s k 0
    pub high : get_or s k 0 < base + rooms fs
    pub here : k < length s

  pub spelt : {form : StringForm} {x : Octets} (fs : List Form) (bit lead base k : ℕ) (y rest : Octets) → Ordered fs → rooms fs ≤ 2 ^ (9 - bit) → longest ≤ sizes fs → base ≡ lead * 2 ^ (9 - bit) → Spelling form x y
      → drop k s ≡ with_length fs base y ++ rest → Spelt fs bit base k y
  spelt fs bit lead base k y rest ok r sz bl sp d =
      let w : Octets = spell fs base (length y) in
      let d1 : drop k s ≡ w ++ (y ++ rest) = d ∙ append_assoc w y rest in
      let p = sp.some in
      let n = num_complete s fs no_top bit lead base (length y) k (y ++ rest) ok r p (omega arith) (omega arith) bl d1 in
      let o = num_first s fs base (length y) k (y ++ rest) ok p (omega arith) d1 in
      let z = stretch_complete s (k + length w) (length y) y rest refl p (drop_past s k w (y ++ rest) d1) in
      let la = length-append w y in
      record {
        next = k + length w;
        num = n;
        octets_are = z.0;
        room = z.1;
        end_is = omega arith;
        low = o.0;
        high = o.1;
        here = o.2;
      }

  -- the octets y from `place` on spell x in this form
  module _ (form : StringForm) (place : ℕ) (x y : Octets) (e : take (length y) (drop place s) ≡ y) (sp : Spelled form x y) where
    pub says : octets_of s (stretch form place (length y)) ≡ x
    says = octets_stretch s form place (length y) ∙ rw e (spelled_said form x y sp)

    pub spelling_is : {C : Type 0} (k : ℕ) (a : Got C) → place + length y ≤ length s → spelling form s k place (length y) a ≡ a
    unfolding spelling
    spelling_is k a r = rw (le-leb (place + length y) (length s) r, says, spelled_text form x y sp)
