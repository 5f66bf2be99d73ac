-- A law for each answer of the functions that read one entry of the head, on plain values.
-- Assumes nothing.
use mathlib.Core.Path.{◌≡◌, refl, sym, ap, ◌∙◌, subst}
use mathlib.Core.Bool.{Bool, true, false, false≢true}
use mathlib.Core.List.{List, [], ◌∷◌}
use Prim.Native.Nat.{ℕ, ◌+◌, ◌/◌, ◌%◌, ◌≤◌, ◌<◌}
use native.Mathlib.Omega.{arith}
use native.Mathlib.Numerals.{add-one}
use borrow.Author.Tests.{lt-ltb, le-ltb, le-leb, lt-leb, eq-eqb, ne_eqb}
use lib.Dec.{eqb, ltb, leb}
use lib.ListN.{length, get_or}
use Rattle.std.specs.Prelude.{Result, Ok, Err}
use Rattle.format.specs.Numbers.{pick, c25, top}
use Rattle.format.specs.Refusals.{refusal_number}
use Rattle.format.specs.Tables.{Triple, Vocabulary, strings, names, adding_name, holds_name, link}
use Rattle.format.specs.Head.{is_identifying, c19}
use Rattle.format.specs.declared.refusals.Fault.{Fault}
use Rattle.format.specs.declared.refusals.Refusal.TheVariants.{Truncated, Code, Padding, Structure}
use Rattle.fields.specs.declared.Read.{Read}
use Rattle.fields.specs.Fields as F
use Rattle.fields.specs.Fields.{bits_of, field_at}
use Rattle.fields.proofs.Laws.{case}
use Rattle.fields.proofs.Bounds.{field_got}
use Rattle.tables.specs.Located.{Located}
use Rattle.tables.specs.Rows.{table_of, vocabulary}
use Rattle.tables.specs.Kept.{unlisted, count_of, name_table_of}
use Rattle.tables.proofs.ByNumber.{by_number_lem}
use Rattle.tables.proofs.Laws.{length-strings}
use Rattle.events.specs.declared.EventString.{EventString}
use Rattle.read_names.specs.Strings as S
use Rattle.read_names.specs.Strings.{IdRead, StringRead, got, refused, then, id_at, spelled_at}
use Rattle.read_names.specs.Names.{namespace_bit}
use Rattle.read_names.specs.Promises.{Ranged, Left, seen_id, IdLeft, id_seen, seen_field, FieldLeft, string_seen, ReadsId}
use Rattle.read_names.specs.StringContracts.{held_of, held_by}
use Rattle.read_names.specs.NameContracts.{new_name, seen_number}
use Rattle.read_names.proofs.Places.{Within}
use Rattle.read_head.specs.Head.{Passed, passing, part_at, identifying_at, another_at, surrogate_at, entry_at}
use Rattle.read_head.specs.Promises.{seen_passed, PassedLeft, ReadsPart, table_at}
use Rattle.read_head.proofs.Places.{passing-within, part-within, new_within, identifying_within, another-within}

-- ---- what an answer stands for, and what it leaves
abbrev Answers : (s c w : List ℕ) → Result ℕ Fault → (d v x : List ℕ) → Passed → Type 0
Answers s c w r d v x g = (seen_passed r d v ≡ g) × PassedLeft s c w r d v x

-- where the code goes on, the tables are in order; where it does not, the definition bounds the refusal's number and place
abbrev Goes : (s c w : List ℕ) → Result ℕ Fault → (d v x : List ℕ) → Type 0
Goes s c w (Ok next) d v x = Left s c w next d v x
Goes s c w (Err f) d v x = Unit {0}

-- what was read is left out
abbrev next_of : {A : Type 0} → Result (Read A) Fault → Result ℕ Fault
next_of (Ok r) = Ok r.next.at
next_of (Err f) = Err f

module _ (s c w d v x : List ℕ) where
  settled : (r : Result ℕ Fault) (g : Passed) → seen_passed r d v ≡ g → Within s g → Goes s c w r d v x → Answers s c w r d v x g
  settled (Ok next) g e h l = (e, l)
  settled (Err f) g e h l = (e, subst (Within s) (sym e) h)

  entry_goes : (t : ℕ) (a : Result (Read ℕ) Fault) → IdLeft s c w t a d v x → Goes s c w (next_of a) d v x
  entry_goes t (Ok r) l = l.0
  entry_goes t (Err f) l = tt

  field_goes : (a : Result (Read EventString) Fault) → FieldLeft s c w a d v x → Goes s c w (next_of a) d v x
  field_goes (Ok r) l = l
  field_goes (Err f) l = tt

module _ (d v : List ℕ) where
  passed_id : (t : ℕ) (a : Result (Read ℕ) Fault) → seen_passed (next_of a) d v ≡ passing (seen_id t a d v)
  passed_id t (Ok r) = refl
  passed_id t (Err f) = refl

  passed_number : (a : Result (Read ℕ) Fault) → seen_passed (next_of a) d v ≡ passing (seen_number a d v)
  passed_number (Ok r) = refl
  passed_number (Err f) = refl

  passed_field : (a : Result (Read EventString) Fault) → seen_passed (next_of a) d v ≡ passing (seen_field a d v)
  passed_field (Ok r) = refl
  passed_field (Err f) = refl

passing_id : (g : S.Got IdRead) → passing (id_seen g) ≡ passing g
passing_id (got b next v) = refl
passing_id (refused n p) = refl

passing_string : (g : S.Got StringRead) → passing (string_seen g) ≡ passing g
passing_string (got b next v) = refl
passing_string (refused n p) = refl

-- ---- strings: o is the first octet, and r what is said of what was read, a
module _ (s c w : List ℕ) (t k : ℕ) (within : k ≤ length s) (o : ℕ) (is : o ≡ get_or s k 0) where
  abbrev here : Vocabulary Located
  here = vocabulary (unlisted c) w

  pub identifying_padded : (x : List ℕ) → 0x80 ≤ o → Answers s c w (F.refused Padding k) c w x (identifying_at link (table_of t) s k here)
  unfolding identifying_at
  identifying_padded x h = rw (le-ltb (get_or s k 0) 0x80 (omega arith)) (refl, (omega arith, within))

  identifying_seen : o < 0x80 → (a : Result (Read ℕ) Fault) (d v : List ℕ) → seen_id t a d v ≡ id_seen (id_at link s (table_of t) k here)
      → seen_passed (next_of a) d v ≡ identifying_at link (table_of t) s k here
  unfolding identifying_at
  identifying_seen h a d v e = rw (lt-ltb (get_or s k 0) 0x80 (omega arith)) (passed_id d v t a ∙ ap passing e ∙ passing_id (id_at link s (table_of t) k here))

  pub identifying_read : o < 0x80 → (a : Result (Read ℕ) Fault) (d v x : List ℕ) → ReadsId s c w t a d v x (id_at link s (table_of t) k)
      → Answers s c w (next_of a) d v x (identifying_at link (table_of t) s k here)
  identifying_read h a d v x reads =
      settled s c w d v x (next_of a) _ (identifying_seen h a d v reads.0) (identifying_within s link (table_of t) k here within) (entry_goes s c w d v x t a reads.1)

  pub another_padded : (x : List ℕ) → 0x40 ≤ o → Answers s c w (F.refused Padding k) c w x (another_at link (table_of t) s k here)
  unfolding another_at
  another_padded x h = rw (le-ltb (get_or s k 0) 0x40 (omega arith)) (refl, (omega arith, within))

  another_seen : o < 0x40 → (a : Result (Read EventString) Fault) (d v : List ℕ) → seen_field a d v ≡ string_seen (spelled_at link 5 s (table_of t) k true here)
      → seen_passed (next_of a) d v ≡ another_at link (table_of t) s k here
  unfolding another_at c19
  another_seen h a d v e =
      rw (lt-ltb (get_or s k 0) 0x40 (omega arith)) (passed_field d v a ∙ ap passing e ∙ passing_string (spelled_at link 5 s (table_of t) k true here))

  pub another-read : o < 0x40 → (a : Result (Read EventString) Fault) (d v x : List ℕ)
      → (seen_field a d v ≡ string_seen (spelled_at link 5 s (table_of t) k true here)) × FieldLeft s c w a d v x
      → Answers s c w (next_of a) d v x (another_at link (table_of t) s k here)
  another-read h a d v x reads =
      settled s c w d v x (next_of a) _ (another_seen h a d v reads.0) (another-within s link (table_of t) k here within) (field_goes s c w d v x a reads.1)

-- ---- a part of a name
module _ (s c : List ℕ) (t k : ℕ) (there : Bool) where
  pub part_absent : k ≤ length s → there ≡ false → ReadsPart s c t k there (F.got 0 k)
  unfolding part_at
  part_absent h z = rw z (λ w. refl, (omega arith, h, λ e. absurd (false≢true e)))

  module _ (is : there ≡ true) where
    pub part_code : get_or s k 0 / 16 % 8 ≡ 7 → ReadsPart s c t k there (F.refused Code k)
    unfolding part_at
    part_code h = rw (is, eq-eqb (get_or s k 0 / 16 % 8) 7 h) (λ w. refl, tt)

    module _ (coded : get_or s k 0 / 16 % 8 ≡ 7 → ⊥) where
      pub part_padded : 0x80 ≤ get_or s k 0 → ReadsPart s c t k there (F.refused Padding k)
      unfolding part_at
      part_padded h = rw (is, ne_eqb (get_or s k 0 / 16 % 8) 7 coded, le-ltb (get_or s k 0) 0x80 h) (λ w. refl, tt)

      pub part-read : get_or s k 0 < 0x80 → (m : Result (Read ℕ) Fault) → m ≡ field_at c25 top 2 s k → (a : Result (Read ℕ) Fault) → a ≡ held_by (count_of (unlisted c) t) k m
          → ReadsPart s c t k there a
      unfolding part_at held_of
      part-read h (Err f) read a e = rw (is, ne_eqb (get_or s k 0 / 16 % 8) 7 coded, lt-ltb (get_or s k 0) 0x80 h, ← read, e) (λ w. refl, tt)
      part-read h (Ok r) read a e =
          let g = field_got top s k c25 2 (sym read) in
          rw (is, ne_eqb (get_or s k 0 / 16 % 8) 7 coded, lt-ltb (get_or s k 0) 0x80 h, ← read, e)
          (case (count_of (unlisted c) t) r.value
          (λ l. rw (lt-leb _ _ l) (λ w. refl, tt))
          (λ l. rw (le-leb _ _ l) (λ w. refl, (l, g.3, λ e. g.0))))

-- ---- a name
seen_new : (held room : Bool) (m k next : ℕ) (v : Vocabulary Located)
    → pick held (refused 11 k) (pick room (got tt next v) (refused 12 k)) ≡ passing (pick held (refused 11 k) (pick room (got m next v) (refused 12 k)))
seen_new true room m k next v = refl
seen_new false true m k next v = refl
seen_new false false m k next v = refl

-- its parts are entries that are there
pub parts_ranged : (c : List ℕ) (p n l : ℕ) → p ≤ count_of (unlisted c) 0 → n ≤ count_of (unlisted c) 1 → 1 ≤ l → l ≤ count_of (unlisted c) 2
    → Ranged (unlisted c) (record { prefix = p; namespace = n; local = l } ∷ [])
unfolding count_of
parts_ranged c p n l hp hn some hl = (hp, hn, some, hl, tt)

-- so many are in the tables that they are of
part-tables : (c w : List ℕ)
    → (length (vocabulary (unlisted c) w).prefixes ≡ count_of (unlisted c) 0)
    × (length (vocabulary (unlisted c) w).namespaces ≡ count_of (unlisted c) 1)
    × (length (vocabulary (unlisted c) w).locals ≡ count_of (unlisted c) 2)
unfolding strings table_of
part-tables c w = (length-strings (unlisted c) w 0 (omega arith), length-strings (unlisted c) w 1 (omega arith), length-strings (unlisted c) w 2 (omega arith))

pub surrogate_missing : (s c w x : List ℕ) (t k : ℕ) → k ≤ length s → length s ≤ k → Answers s c w (F.refused Truncated k) c w x (surrogate_at link (name_table_of t) s k (vocabulary (unlisted c) w))
unfolding surrogate_at
surrogate_missing s c w x t k h l = rw (le-ltb k (length s) l) (refl, (omega arith, h))

module _ (s c w : List ℕ) (t k : ℕ) (there : k < length s) (b : ℕ) (is : b ≡ get_or s k 0) where
  abbrev tables : Vocabulary Located
  tables = vocabulary (unlisted c) w

  abbrev name : Passed
  name = surrogate_at link (name_table_of t) s k (vocabulary (unlisted c) w)

  pub surrogate_padded : (x : List ℕ) → 4 ≤ b → Answers s c w (F.refused Padding k) c w x name
  unfolding surrogate_at
  surrogate_padded x h = rw (lt-ltb k (length s) there, le-ltb (get_or s k 0) 4 (omega arith)) (refl, (omega arith, omega arith))

  pub surrogate_lone : (x : List ℕ) → b ≡ 2 → Answers s c w (F.refused Structure k) c w x name
  unfolding surrogate_at
  surrogate_lone x h =
      let z : get_or s k 0 ≡ 2 = omega arith in
      rw (lt-ltb k (length s) there, z) (refl, (omega arith, omega arith))

  abbrev prefix_part : S.Got ℕ
  prefix_part = part_at (leb 2 b) (count_of (unlisted c) 0) s (k + 1) tables

  abbrev namespace_part : (m k₁ : ℕ) → S.Got ℕ
  namespace_part m k₁ = part_at (eqb m 1) (count_of (unlisted c) 1) s k₁ tables

  abbrev local_part : ℕ → S.Got ℕ
  local_part k₂ = part_at true (count_of (unlisted c) 2) s k₂ tables

  abbrev behind_local : (p n l k₃ : ℕ) → Passed
  behind_local p n l k₃ =
      let x : Triple = record { prefix = p; namespace = n; local = l } in
      pick (holds_name (names tables (name_table_of t)) x) (refused 11 k)
      (pick (ltb (length (names tables (name_table_of t))) link.entries) (got tt k₃ (adding_name tables (name_table_of t) x)) (refused 12 k))

  abbrev behind_namespace : (p n k₂ : ℕ) → Vocabulary Located → Passed
  behind_namespace p n k₂ v₂ = then (part_at true (length tables.locals) s k₂ v₂) λ l k₃ v₃. behind_local p n l k₃

  abbrev behind_prefix : (p k₁ : ℕ) → Vocabulary Located → Passed
  behind_prefix p k₁ v₁ = then (part_at (namespace_bit (get_or s k 0)) (length tables.namespaces) s k₁ v₁) λ n k₂ v₂. behind_namespace p n k₂ v₂

  module _ (low : b < 4) (paired : b ≡ 2 → ⊥) where
    name_first : name ≡ then prefix_part behind_prefix
    unfolding surrogate_at
    name_first =
        let z : get_or s k 0 % 4 ≡ b = omega arith in
        rw (lt-ltb k (length s) there, lt-ltb (get_or s k 0) 4 (omega arith), z, ne_eqb b 2 paired, (part-tables c w).0, add-one k)

    module _ (x : List ℕ) (f : Fault) where
      abbrev none : {A : Type 0} → S.Got A
      none = refused (refusal_number f.refusal) f.at

      refused_part : (there : Bool) (entries i : ℕ) → i ≤ length s → none ≡ part_at there entries s i tables
          → (none ≡ part_at there entries s i tables → none ≡ name) → Answers s c w (Err f) c w x name
      refused_part there entries i h e g = (g e, subst (Within s) (sym e) (part-within s there entries i tables h))

      pub name_prefix : seen_number (Err f) c w ≡ prefix_part → Answers s c w (Err f) c w x name
      name_prefix e = refused_part (leb 2 b) (count_of (unlisted c) 0) (k + 1) (omega arith) e λ q. rw (name_first, ← q)

    module _ (m : ℕ) (em : m ≡ bits_of b 8 8) (p k₁ : ℕ) (e₁ : got p k₁ tables ≡ prefix_part) (h₁ : k₁ ≤ length s) where
      name_second : name ≡ then (namespace_part m k₁) λ n k₂ v₂. behind_namespace p n k₂ v₂
      name_second =
          let z : get_or s k 0 % 2 ≡ m = omega arith in
          rw (name_first, ← e₁, z, (part-tables c w).1)

      pub name_namespace : (x : List ℕ) (f : Fault) → seen_number (Err f) c w ≡ namespace_part m k₁ → Answers s c w (Err f) c w x name
      name_namespace x f e = refused_part x f (eqb m 1) (count_of (unlisted c) 1) k₁ h₁ e λ z. rw (name_second, ← z)

      module _ (n k₂ : ℕ) (e₂ : got n k₂ tables ≡ namespace_part m k₁) (h₂ : k₂ ≤ length s) where
        name_third : name ≡ then (local_part k₂) λ l k₃ v₃. behind_local p n l k₃
        name_third = rw (name_second, ← e₂, (part-tables c w).2)

        pub name_local : (x : List ℕ) (f : Fault) → seen_number (Err f) c w ≡ local_part k₂ → Answers s c w (Err f) c w x name
        name_local x f e = refused_part x f true (count_of (unlisted c) 2) k₂ h₂ e λ z. rw (name_third, ← z)

        -- the triple was added, or not: a
        module _ (l k₃ : ℕ) (e₃ : got l k₃ tables ≡ local_part k₂) (h₃ : k₃ ≤ length s) where
          abbrev triple : Triple
          triple = record { prefix = p; namespace = n; local = l }

          name_last : name ≡ passing (new_name link (name_table_of t) triple k k₃ tables)
          unfolding new_name
          name_last =
              rw (name_third, ← e₃)
              (seen_new (holds_name (names tables (name_table_of t)) triple) (ltb (length (names tables (name_table_of t))) link.entries) _ k k₃ (adding_name tables (name_table_of t) triple))

          pub name_added : (a : Result (Read ℕ) Fault) (d v x : List ℕ) → seen_number a d v ≡ new_name link (name_table_of t) triple k k₃ tables → IdLeft s c w t a d v x
              → Answers s c w (next_of a) d v x name
          name_added a d v x e left =
              rw name_last
              (settled s c w d v x (next_of a) _ (passed_number d v a ∙ ap passing e)
              (passing-within s (new_name link (name_table_of t) triple k k₃ tables) (new_within s link (name_table_of t) triple k k₃ tables (omega arith) h₃))
              (entry_goes s c w d v x t a left))

-- ---- an entry by its table's number
identifies : (t : ℕ) → t < 5 → is_identifying (table_of t) ≡ true
unfolding is_identifying table_of
identifies t h = by_number_lem (λ (t : ℕ). is_identifying (table_of t) ≡ true) 0 5 (refl, (refl, (refl, (refl, (refl, tt))))) t (omega arith) (omega arith)

differs : (t : ℕ) → 5 ≤ t → t < 8 → is_identifying (table_of t) ≡ false
unfolding is_identifying table_of
differs t l h = by_number_lem (λ (t : ℕ). is_identifying (table_of t) ≡ false) 5 3 (refl, (refl, (refl, tt))) t l (omega arith)

module _ (t : ℕ) (s : List ℕ) (k : ℕ) (v : Vocabulary Located) (g : Passed) where
  pub entry_identifying : t < 5 → g ≡ identifying_at link (table_of t) s k v → g ≡ entry_at link (table_at t) s k v
  unfolding entry_at table_at
  entry_identifying h e = rw (lt-ltb t 8 (omega arith), identifies t h) e

  pub entry_another : 5 ≤ t → t < 8 → g ≡ another_at link (table_of t) s k v → g ≡ entry_at link (table_at t) s k v
  unfolding entry_at table_at
  entry_another l h e = rw (lt-ltb t 8 h, differs t l h) e

  pub entry_name : 8 ≤ t → g ≡ surrogate_at link (name_table_of t) s k v → g ≡ entry_at link (table_at t) s k v
  unfolding entry_at table_at
  entry_name l e = rw (le-ltb t 8 l) e
