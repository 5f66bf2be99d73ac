-- Names, C.17 and C.18, and namespace declarations, C.12: what is read is what the rules write, and what they write is read.
use mathlib.Core.Path.{◌≡◌, refl, sym, ap, ap₂, ◌∙◌, subst, subst₂}
use mathlib.Core.Bool.{false}
use mathlib.Core.Option.{Option, none, some, map}
use mathlib.Core.List.{List, [], ◌∷◌, ◌++◌, append_assoc}
use Prim.Native.Nat.{ℕ, zero, suc, ◌+◌, ◌-◌, ◌*◌, ◌%◌, ◌^◌, ◌≤◌, ◌<◌}
use native.Mathlib.Omega.{arith}
use borrow.Author.Tests.{lt-ltb, le-ltb, le-leb}
use lib.Dec.{eqb, leb}
use lib.ListN.{length, get_or, drop, length-append}
use lib.Seq.{drop-cons}
use Rattle.format.specs.Octets.{Octets}
use Rattle.format.specs.Numbers.{behind_first, spell, numbers, c25, top, longest}
use Rattle.format.specs.Events.{Name, name_map, How, NameHow, in_parts, by_number}
use Rattle.format.specs.Tables.{PREFIX, NAMESPACE_NAME, LOCAL_NAME, Triple, Vocabulary, strings, names, adding_name, holds_name, Entry, Version}
use Rattle.format.specs.Strings.{bit, Identifying, Optional}
use Rattle.format.specs.Names.{has, NameLayout, of_element, of_attribute, Named, in_parts_lem, by_number_lem, Declared, declared}
use Rattle.std.specs.Prelude.{Ok as Num}
use Rattle.fields.specs.declared.Read.{Read}
use Rattle.fields.specs.Fields.{share_of, field_at}
use Rattle.fields.proofs.Laws.{rooms_in}
use Rattle.fields.proofs.Forms.{rooms, Ordered}
use Rattle.fields.proofs.Numbers.{c25_ordered, numbers_ordered}
use Rattle.fields.proofs.RoundTrip.{some_first}
use Rattle.tables.specs.Located.{Located, empty, octets_of, plain_tables}
use Rattle.tables.proofs.EntryLaws.{entry_made, entry_is, entry_at}
use Rattle.tables.proofs.NewLaws.{new_name_lem}
use Rattle.read_names.specs.Strings.{Got, refused, id_at, optional_at}
use Rattle.read_names.specs.Names.{NameRead, DeclaredRead, prefix_bit, namespace_bit, lone_prefix, name_bit, name_of, no_triple, parts_at, numbered_at, name_at, declared_at}
use Rattle.theorems.specs.Places.{option_spelled, name_spelled, in_name, in_declared}
use Rattle.theorems.proofs.Lists.{fault, test_lt, test_le, test_not, test_ge, either_lt, either_eq, drop_head, drop_past}
use Rattle.theorems.proofs.Words.{names-map, adding-name-map, name_map_lem}
use Rattle.theorems.proofs.Triples.{means_is, means_at}
use Rattle.theorems.proofs.Chosen.{Ranged}
use Rattle.theorems.proofs.Numbers.{num_sound, num_complete, num_first}
use Rattle.theorems.proofs.Fields.{Ok, on_number, on_field, Hit, hit_at}
use Rattle.theorems.proofs.Strings.{IdR, id_sound, OptionalR, optional_sound, IdQ, id_complete, there, OptionalQ, optional_complete}

-- ---- the bits p and n
two_bits : (d : ℕ) → d < 4 → d ≡ 2 * bit (leb 2 d) + bit (eqb (d % 2) 1)
two_bits zero h = refl
two_bits (suc zero) h = refl
two_bits (suc (suc zero)) h = refl
two_bits (suc (suc (suc zero))) h = refl
two_bits (suc (suc (suc (suc d)))) h = absurd (omega arith)

no_lone : (d : ℕ) → d < 4 → (d ≡ 2 → ⊥) → bit (leb 2 d) ≤ bit (eqb (d % 2) 1)
no_lone zero h n = omega arith
no_lone (suc zero) h n = omega arith
no_lone (suc (suc zero)) h n = absurd (n refl)
no_lone (suc (suc (suc zero))) h n = omega arith
no_lone (suc (suc (suc (suc d)))) h n = absurd (omega arith)

-- the bits of an octet b, by its two lowest
bits_are : (b : ℕ) → b % 4 ≡ 2 * bit (prefix_bit b) + bit (namespace_bit b)
bits_are b = let z : b % 2 ≡ b % 4 % 2 = omega arith in rw z (two_bits (b % 4) (omega arith))

pub bits_paired : (b : ℕ) → (b % 4 ≡ 2 → ⊥) → bit (prefix_bit b) ≤ bit (namespace_bit b)
bits_paired b h = let z : b % 2 ≡ b % 4 % 2 = omega arith in rw z (no_lone (b % 4) (omega arith) h)

bits_back : {E : Type 0} (p n : Option E) (b : ℕ) → b % 4 ≡ 2 * has p + has n → (prefix_bit b ≡ there p) × (namespace_bit b ≡ there n)
bits_back none none b e = let z : b % 2 ≡ 0 = omega arith in rw (e, z) (refl, refl)
bits_back none (some n) b e = let z : b % 2 ≡ 1 = omega arith in rw (e, z) (refl, refl)
bits_back (some p) none b e = let z : b % 2 ≡ 0 = omega arith in rw (e, z) (refl, refl)
bits_back (some p) (some n) b e = let z : b % 2 ≡ 1 = omega arith in rw (e, z) (refl, refl)

not_lone : {E : Type 0} (p n : Option E) (b : ℕ) → has p ≤ has n → b % 4 ≡ 2 * has p + has n → lone_prefix b ≡ false
not_lone none none b h e = rw e
not_lone none (some n) b h e = rw e
not_lone (some p) none b h e = absurd (omega arith)
not_lone (some p) (some n) b h e = rw e

pub has_one : {E : Type 0} (p : Option E) → has p ≤ 1
has_one none = omega arith
has_one (some p) = omega arith

-- where the fields of a name stand in its first octet
pub record NameShape (q : NameLayout) : Type 0 where
  pub numbers_ok : Ordered q.number_forms
  pub numbers_fit : rooms q.number_forms ≤ 2 ^ (9 - name_bit q.table)
  pub even : q.in_parts_bits % 4 ≡ 0

pub element_shape : NameShape of_element
unfolding of_element rooms_in share_of behind_first numbers
element_shape = record { numbers_ok = numbers_ordered 3 (omega arith) (omega arith); numbers_fit = omega arith; even = refl }

pub attribute_shape : NameShape of_attribute
unfolding of_attribute rooms_in share_of behind_first c25
attribute_shape = record { numbers_ok = c25_ordered; numbers_fit = omega arith; even = refl }

-- ---- what is read is what the rules write
module _ (ver : Version) (s : Octets) (bytes : (i : ℕ) → get_or s i 0 < 256) (short : length s ≤ longest) where
  abbrev pub NameR : NameLayout → ℕ → Vocabulary Octets → NameRead → Octets → Vocabulary Octets → Type 0
  NameR q lead v b o w = Named ver q lead v (name_map (octets_of s) b.name) b.how o w

  three_parts : (k : ℕ) (a b c : Octets) (k₁ k₂ k₃ : ℕ) → drop k s ≡ a ++ drop k₁ s → drop k₁ s ≡ b ++ drop k₂ s → drop k₂ s ≡ c ++ drop k₃ s → drop k s ≡ (a ++ (b ++ c)) ++ drop k₃ s
  three_parts k a b c k₁ k₂ k₃ p q r = p ∙ ap (λ (l : Octets). a ++ l) (q ∙ ap (λ (l : Octets). b ++ l) r) ∙ simp append_assoc

  pub numbered_sound : (q : NameLayout) → NameShape q → (lead k : ℕ) (v : Vocabulary Located) → Ranged (plain_tables s v) → k ≤ length s → get_or s k 0 ≡ lead + get_or s k 0 % 2 ^ (9 - name_bit q.table) → Ok s (NameR q lead) k v (numbered_at ver q s k v)
  unfolding numbered_at octets_of strings
  numbered_sound q g lead k v ranged kl z =
      let P : Got NameRead → Type 0 = Ok s (NameR q lead) k v in
      on_number s P (λ c p f. f) q.number_forms top lead k (field_at q.number_forms top (name_bit q.table) s k) (num_sound s bytes q.number_forms g.numbers_ok top (name_bit q.table) lead k kl z) _
      λ n next r. test_le P (refused 10 k) (fault s 10 k refl kl) n (length (names v q.table)) _
      λ t1.
      let y = r.is in
      let e : n - 1 ≡ r.v = omega arith in
      let x : Triple = get_or (names v q.table) (n - 1) no_triple in
      let same_names_lem = names-map (octets_of s) v q.table in
      let en : Entry (names (plain_tables s v) q.table) r.v x = rw (same_names_lem, e) (entry_at (names v q.table) r.v no_triple (omega arith)) in
      let i = ranged q.table r.v x en in
      record {
        octets = spell q.number_forms lead n;
        rule = subst₂ (λ (m : ℕ) (y : Name Octets). Named ver q lead (plain_tables s v) y (by_number m) (spell q.number_forms lead m) (plain_tables s v)) (sym y) (sym (name_map_lem (octets_of s) v empty x))
            (by_number_lem (omega arith) r.small en (means_at [] (plain_tables s v) x i.prefix i.namespace i.some_local i.local));
        here = r.here;
        next_is = r.next_is;
        inside = r.inside;
      }

  pub parts_sound : (q : NameLayout) (lead b k : ℕ) (v : Vocabulary Located) → get_or s k 0 ≡ lead + q.in_parts_bits + b % 4 → k < length s → Ok s (NameR q lead) k v (parts_at ver q s b k v)
  unfolding parts_at
  parts_sound q lead b k v z h =
      let kl : k ≤ length s = omega arith in
      let P : Got NameRead → Type 0 = Ok s (NameR q lead) k v in
      either_eq P (b % 4) 2 _ _ (λ y. fault s 15 k refl kl)
      λ h3. on_field s P (λ c p f. f) (OptionalR ver s bytes short (prefix_bit b) PREFIX) (suc k) v (optional_at ver (prefix_bit b) s PREFIX (suc k) v) (optional_sound ver s bytes short (prefix_bit b) PREFIX (suc k) v h) _
      λ p k₁ v₁ r₁. on_field s P (λ c p f. f) (OptionalR ver s bytes short (namespace_bit b) NAMESPACE_NAME) k₁ v₁ (optional_at ver (namespace_bit b) s NAMESPACE_NAME k₁ v₁) (optional_sound ver s bytes short (namespace_bit b) NAMESPACE_NAME k₁ v₁ r₁.inside) _
      λ n k₂ v₂ r₂. on_field s P (λ c p f. f) (IdR ver s bytes short LOCAL_NAME) k₂ v₂ (id_at ver s LOCAL_NAME k₂ v₂) (id_sound ver s bytes short LOCAL_NAME k₂ v₂ r₂.inside) _
      λ l k₃ v₃ r₃.
      let x : Triple = record { prefix = p.number; namespace = n.number; local = l.number } in
      test_not P (refused 11 k) (fault s 11 k refl kl) (holds_name (names v₃ q.table) x) _
      λ t1. test_lt P (refused 12 k) (fault s 12 k refl kl) (length (names v₃ q.table)) ver.entries _
      λ t2.
      let bits = bits_are b in
      let lone = bits_paired b h3 in
      let oct : get_or s k 0 ≡ lead + q.in_parts_bits + 2 * has (map (octets_of s) p.string) + has (map (octets_of s) n.string) = omega arith in
      let paired : has (map (octets_of s) p.string) ≤ has (map (octets_of s) n.string) = omega arith in
      let same_names_lem = names-map (octets_of s) v₃ q.table in
      record {
        octets = (lead + q.in_parts_bits + 2 * has (map (octets_of s) p.string) + has (map (octets_of s) n.string)) ∷ (r₁.octets ++ (r₂.octets ++ r₃.octets));
        rule = rw (adding-name-map (octets_of s) v₃ q.table x) (in_parts_lem paired r₁.rule.0 r₂.rule.0 r₃.rule ((new_name_lem (names (plain_tables s v₃) q.table) x).0 (rw same_names_lem t1)) (rw same_names_lem t2));
        here = drop-cons s k 0 h ∙ ap₂ (λ (y : ℕ) (l : Octets). y ∷ l) oct (three_parts (suc k) r₁.octets r₂.octets r₃.octets k₁ k₂ k₃ r₁.here r₂.here r₃.here);
        next_is = let y : length (r₁.octets ++ (r₂.octets ++ r₃.octets)) ≡ length r₁.octets + (length r₂.octets + length r₃.octets) = simp length-append in omega arith;
        inside = r₃.inside;
      }

  -- b is the name's part of its first octet
  pub name_sound : (q : NameLayout) → NameShape q → (lead b k : ℕ) (v : Vocabulary Located) → Ranged (plain_tables s v) → (b < q.in_parts_bits → get_or s k 0 ≡ lead + get_or s k 0 % 2 ^ (9 - name_bit q.table))
      → (q.in_parts_bits ≤ b → get_or s k 0 ≡ lead + q.in_parts_bits + b % 4) → k < length s → Ok s (NameR q lead) k v (name_at ver q s b k v)
  unfolding name_at
  name_sound q shape lead b k v ranged f g h =
      either_lt (Ok s (NameR q lead) k v) b q.in_parts_bits _ _ (λ y. numbered_sound q shape lead k v ranged (omega arith) (f y)) (λ y. parts_sound q lead b k v (g y) h)

  abbrev pub DeclaredR : Vocabulary Octets → DeclaredRead → Octets → Vocabulary Octets → Type 0
  DeclaredR v b o w = Declared ver v (map (octets_of s) b.prefix) (map (octets_of s) b.namespace) b.prefix_how b.namespace_how o w

  pub declared_sound : (k : ℕ) (v : Vocabulary Located) → k ≤ length s → Ok s DeclaredR k v (declared_at ver s k v)
  unfolding declared_at
  declared_sound k v kl =
      let P : Got DeclaredRead → Type 0 = Ok s DeclaredR k v in
      let b : ℕ = get_or s k 0 in
      test_lt P (refused 2 k) (fault s 2 k refl kl) k (length s) _
      λ h. test_ge P (refused 5 k) (fault s 5 k refl kl) b 0xCC _
      λ h1. either_lt P b 0xD0 _ _
      (λ h2. on_field s P (λ c p f. f) (OptionalR ver s bytes short (prefix_bit b) PREFIX) (suc k) v (optional_at ver (prefix_bit b) s PREFIX (suc k) v) (optional_sound ver s bytes short (prefix_bit b) PREFIX (suc k) v h) _
      λ p k₁ v₁ r₁. on_field s P (λ c p f. f) (OptionalR ver s bytes short (namespace_bit b) NAMESPACE_NAME) k₁ v₁ (optional_at ver (namespace_bit b) s NAMESPACE_NAME k₁ v₁) (optional_sound ver s bytes short (namespace_bit b) NAMESPACE_NAME k₁ v₁ r₁.inside) _
      λ n k₂ v₂ r₂.
      let bits = bits_are b in
      let oct : b ≡ 0xCC + 2 * has (map (octets_of s) p.string) + has (map (octets_of s) n.string) = omega arith in
      let la = length-append r₁.octets r₂.octets in
      record {
        octets = (0xCC + 2 * has (map (octets_of s) p.string) + has (map (octets_of s) n.string)) ∷ (r₁.octets ++ r₂.octets);
        rule = declared r₁.rule.0 r₂.rule.0;
        here = drop-cons s k 0 h ∙ ap₂ (λ (y : ℕ) (l : Octets). y ∷ l) oct (r₁.here ∙ ap (λ (l : Octets). r₁.octets ++ l) r₂.here ∙ sym (append_assoc r₁.octets r₂.octets (drop k₂ s)));
        next_is = omega arith;
        inside = r₂.inside;
      })
      (λ h2. either_lt P b 0xF0 _ _ (λ y. fault s 5 k refl kl) (λ y. either_eq P b 0xF0 _ _ (λ z. fault s 15 k refl kl) (λ z. fault s 6 k refl kl)))

-- ---- what the rules write is read
module _ (ver : Version) (s : Octets) where
  -- p is where its parts are spelled
  abbrev pub NameQ : Name Octets → NameHow → List Located → NameRead → Type 0
  NameQ x h p b = (name_map (octets_of s) b.name ≡ x) × (b.how ≡ h) × (name_spelled b.name b.how ≡ p)

  -- o is the name's part of its first octet
  pub data NameHit (q : NameLayout) (lead k : ℕ) (v : Vocabulary Located) (x : Name Octets) (h : NameHow) (os : Octets) (w : Vocabulary Octets) (p : List Located) : Type 0 where
    hit_numbered : (o : ℕ) → get_or s k 0 ≡ lead + o → o < rooms q.number_forms → (r : Read ℕ) → field_at q.number_forms top (name_bit q.table) s k ≡ Num r
        → Hit s (NameQ x h p) (k + length os) w (numbered_at ver q s k v) → NameHit q lead k v x h os w p
    hit_parts : (o : ℕ) → get_or s k 0 ≡ lead + o → q.in_parts_bits ≤ o → o < q.in_parts_bits + 4 → lone_prefix o ≡ false
        → Hit s (NameQ x h p) (k + length os) w (parts_at ver q s o k v) → NameHit q lead k v x h os w p

  -- the three parts, read; then the triple
  module _ (q : NameLayout) (k : ℕ) (v : Vocabulary Located) (p n : Option Octets) (l : Octets) (hp hn : Option How) (hl : How) (kp kn kl o k₁ k₂ k₃ : ℕ) (w₁ w₂ w₃ : Vocabulary Octets) (sp sn sl : List Located)
      (is : o % 4 ≡ 2 * has p + has n) (paired : has p ≤ has n)
      (i1 : Hit s (OptionalQ ver s p hp kp sp) k₁ w₁ (optional_at ver (there p) s PREFIX (suc k) v))
      (i2 : Hit s (OptionalQ ver s n hn kn sn) k₂ w₂ (optional_at ver (there n) s NAMESPACE_NAME k₁ i1.v)) (i3 : Hit s (IdQ ver s l hl kl sl) k₃ w₃ (id_at ver s LOCAL_NAME k₂ i2.v))
      (new : holds_name (names w₃ q.table) (record { prefix = kp; namespace = kn; local = kl }) ≡ false) (room : length (names w₃ q.table) < ver.entries) where
    abbrev triple : Triple
    triple = record { prefix = i1.b.number; namespace = i2.b.number; local = i3.b.number }

    triple_is : triple ≡ record { prefix = kp; namespace = kn; local = kl }
    triple_is = λ j. record { prefix = i1.what.2 j; namespace = i2.what.2 j; local = i3.what.2 j }

    names_are_lem : names i3.v q.table ≡ names w₃ q.table
    names_are_lem = sym (names-map (octets_of s) i3.v q.table) ∙ ap (λ (y : Vocabulary Octets). names y q.table) i3.state

    parts-read : Hit s (NameQ (record { prefix = p; namespace = n; local = l }) (in_parts hp hn hl) (sp ++ (sn ++ sl))) k₃ (adding_name w₃ q.table (record { prefix = kp; namespace = kn; local = kl })) (parts_at ver q s o k v)
    unfolding parts_at
    parts-read =
        let bb = bits_back p n o is in
        let u = ap (λ (y : List Triple). length y) names_are_lem in
        rw (not_lone p n o paired is, bb.0, bb.1, i1.goes, i2.goes, i3.goes, ap₂ (λ (y : List Triple) (x : Triple). holds_name y x) names_are_lem triple_is ∙ new, lt-ltb (length (names i3.v q.table)) ver.entries (omega arith))
        (record {
          b = record { name = record { prefix = i1.b.string; namespace = i2.b.string; local = i3.b.string }; how = in_parts i1.b.how i2.b.how i3.b.how };
          v = adding_name i3.v q.table triple;
          goes = refl;
          state = adding-name-map (octets_of s) i3.v q.table triple ∙ ap₂ (λ (y : Vocabulary Octets) (x : Triple). adding_name y q.table x) i3.state triple_is;
          what = ((λ j. record { prefix = i1.what.0 j; namespace = i2.what.0 j; local = i3.what.0 j }), (λ j. in_parts (i1.what.1 j) (i2.what.1 j) (i3.what.1 j)), (λ j. i1.what.3 j ++ (i2.what.3 j ++ i3.what.3 j)));
        })

  pub name_complete : (q : NameLayout) → NameShape q → (times lead k : ℕ) → lead ≡ times * 2 ^ (9 - name_bit q.table) → (v : Vocabulary Located) {x : Name Octets} {h : NameHow} {os : Octets} {w : Vocabulary Octets} (rest : Octets)
      (u : Named ver q lead (plain_tables s v) x h os w) → drop k s ≡ os ++ rest → NameHit q lead k v x h os w (in_name k u) × (0 < length os) × (k < length s)
  unfolding numbered_at octets_of
  name_complete q g times lead k e v rest (by_number_lem {k = j} {x = x} small fits en m) d =
      let f = num_first s q.number_forms lead (suc j) k rest g.numbers_ok (omega arith) fits d in
      let n = num_complete s q.number_forms top (name_bit q.table) times lead (suc j) k rest g.numbers_ok g.numbers_fit (omega arith) fits (omega arith) e d in
      let here = rw (names-map (octets_of s) v q.table) at en in
      let made = entry_made here in
      let z : suc j - 1 ≡ j = omega arith in (
        hit_numbered (get_or s k 0 - lead) (omega arith) (omega arith) _ n
            (rw (n, le-leb (suc j) (length (names v q.table)) (omega arith))
            (record {
              b = record { name = name_of v empty (get_or (names v q.table) (suc j - 1) no_triple); how = by_number (suc j) };
              v = v;
              goes = refl;
              state = refl;
              what = (name_map_lem (octets_of s) v empty _ ∙ ap (λ (y : Triple). name_of (plain_tables s v) [] y) (ap (λ (u : ℕ). get_or (names v q.table) u no_triple) z ∙ entry_is no_triple here) ∙ means_is [] m, refl, refl);
            })),
        some_first q.number_forms lead (suc j) g.numbers_ok (omega arith) fits,
        f.2,
      )
  name_complete q g times lead k e v rest (in_parts_lem {p = p} {n = n} {l = l} {hp = hp} {hn = hn} {hl = hl} {kp = kp} {kn = kn} {kl = kl} {op = op} {on = on} {ol = ol} {v₁ = w₁} {v₂ = w₂} {v₃ = w₃} paired up un ul new room) d =
      let o : ℕ = q.in_parts_bits + 2 * has p + has n in
      let a = drop_head s k (lead + q.in_parts_bits + 2 * has p + has n) ((op ++ (on ++ ol)) ++ rest) d in
      let p1 = has_one p in
      let n1 = has_one n in
      let is : o % 4 ≡ 2 * has p + has n = omega arith in
      let d1 : drop (suc k) s ≡ op ++ (on ++ (ol ++ rest)) = a.2 ∙ simp append_assoc in
      let i1 = optional_complete ver s PREFIX (suc k) v (on ++ (ol ++ rest)) up d1 in
      let k1 : ℕ = suc k + length op in
      let d2 : drop k1 s ≡ on ++ (ol ++ rest) = drop_past s (suc k) op (on ++ (ol ++ rest)) d1 in
      let i2 = optional_complete ver s NAMESPACE_NAME k1 i1.v (ol ++ rest) (subst (λ (y : Vocabulary Octets). Optional ver NAMESPACE_NAME y n hn kn on w₂) (sym i1.state) un) d2 in
      let k2 : ℕ = k1 + length on in
      let d3 : drop k2 s ≡ ol ++ rest = drop_past s k1 on (ol ++ rest) d2 in
      let i3 = id_complete ver s LOCAL_NAME k2 i2.v rest (subst (λ (y : Vocabulary Octets). Identifying ver LOCAL_NAME y l hl kl ol w₃) (sym i2.state) ul) d3 in
      let la : length (op ++ (on ++ ol)) ≡ length op + (length on + length ol) = simp length-append in (
        hit_parts o (omega arith) (omega arith) (omega arith) (not_lone p n o paired is)
            (hit_at s (NameQ (record { prefix = p; namespace = n; local = l }) (in_parts hp hn hl) _) (k2 + length ol) (k + suc (length (op ++ (on ++ ol)))) (adding_name w₃ q.table (record { prefix = kp; namespace = kn; local = kl })) (parts_at ver q s o k v) (omega arith)
            (parts-read q k v p n l hp hn hl kp kn kl o k1 k2 (k2 + length ol) w₁ w₂ w₃ _ _ _ is paired i1 i2 i3 ((new_name_lem (names w₃ q.table) (record { prefix = kp; namespace = kn; local = kl })).1 new) room)),
        omega arith,
        a.0,
      )

  abbrev pub DeclaredQ : Option Octets → Option Octets → Option How → Option How → List Located → DeclaredRead → Type 0
  DeclaredQ p n hp hn l b =
      (map (octets_of s) b.prefix ≡ p) × (map (octets_of s) b.namespace ≡ n) × (b.prefix_how ≡ hp) × (b.namespace_how ≡ hn)
      × (option_spelled b.prefix b.prefix_how ++ option_spelled b.namespace b.namespace_how ≡ l)

  pub declared_complete : (k : ℕ) (v : Vocabulary Located) {p n : Option Octets} {hp hn : Option How} {os : Octets} {w : Vocabulary Octets} (rest : Octets)
      (u : Declared ver (plain_tables s v) p n hp hn os w) → drop k s ≡ os ++ rest
      → Hit s (DeclaredQ p n hp hn (in_declared k u)) (k + length os) w (declared_at ver s k v) × (0xCC ≤ get_or s k 0) × (get_or s k 0 < 0xD0) × (k < length s) × (0 < length os)
  unfolding declared_at
  declared_complete k v rest (declared {p = p} {n = n} {hp = hp} {hn = hn} {kp = kp} {kn = kn} {op = op} {on = on} {v₁ = w₁} {v₂ = w₂} up un) d =
      let a = drop_head s k (0xCC + 2 * has p + has n) ((op ++ on) ++ rest) d in
      let o : ℕ = get_or s k 0 in
      let p1 = has_one p in
      let n1 = has_one n in
      let bb = bits_back p n o (omega arith) in
      let d1 : drop (suc k) s ≡ op ++ (on ++ rest) = a.2 ∙ append_assoc op on rest in
      let i1 = optional_complete ver s PREFIX (suc k) v (on ++ rest) up d1 in
      let k1 : ℕ = suc k + length op in
      let d2 : drop k1 s ≡ on ++ rest = drop_past s (suc k) op (on ++ rest) d1 in
      let i2 = optional_complete ver s NAMESPACE_NAME k1 i1.v rest (subst (λ (y : Vocabulary Octets). Optional ver NAMESPACE_NAME y n hn kn on w₂) (sym i1.state) un) d2 in
      let la = length-append op on in (
        hit_at s (DeclaredQ p n hp hn _) (k1 + length on) _ _ _ (omega arith)
            (rw (lt-ltb k (length s) a.0, le-ltb o 0xCC (omega arith), lt-ltb o 0xD0 (omega arith), bb.0, bb.1, i1.goes, i2.goes)
            (record {
              b = record { prefix = i1.b.string; namespace = i2.b.string; prefix_how = i1.b.how; namespace_how = i2.b.how };
              v = i2.v;
              goes = refl;
              state = i2.state;
              what = (i1.what.0, i2.what.0, i1.what.1, i2.what.1, λ j. i1.what.3 j ++ i2.what.3 j);
            })),
        omega arith,
        omega arith,
        a.0,
        omega arith,
      )
