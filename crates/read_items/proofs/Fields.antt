-- What a field's answer says of the definition's, and what is left behind it.
-- Assumes nothing.
use mathlib.Core.Path.{◌≡◌, refl, ◌∙◌}
use mathlib.Core.List.{List}
use Prim.Native.Nat.{ℕ, ◌+◌, ◌≤◌, ◌<◌}
use native.Mathlib.Omega.{arith}
use lib.ListN.{length}
use Rattle.std.specs.Prelude.{Ok, Err}
use Rattle.format.specs.Octets.{Octets, Words}
use Rattle.format.specs.Refusals.{refusal_number}
use Rattle.format.specs.declared.refusals.Fault.{Fault}
use Rattle.format.specs.Tables.{Vocabulary}
use Rattle.fields.specs.declared.Read.{Read}
use Rattle.tables.specs.Located.{Located}
use Rattle.tables.specs.Rows.{vocabulary}
use Rattle.tables.specs.Kept.{count_of, unlisted}
use Rattle.states.specs.declared.State.{State}
use Rattle.states.specs.States.{farthest, moved_to, coming}
use Rattle.events.specs.declared.EventString.{EventString}
use Rattle.events.specs.declared.EventString.TheVariants.{Absent}
use Rattle.events.specs.Records.{event_string, optional_event_string}
use Rattle.read_names.specs.declared.Binding.{Binding}
use Rattle.read_names.specs.declared.Parts.{Parts}
use Rattle.read_names.specs.Strings as S
use Rattle.read_names.specs.Strings.{IdRead, StringRead}
use Rattle.read_names.specs.Names.{NameRead, DeclaredRead}
use Rattle.read_names.specs.Promises.{Tidy, Seen, Left, seen_id, id_seen, seen_field, string_seen, seen_name, name_seen, seen_declared, declared_seen, event_string_at, name_strings_at, NameThere}
use Rattle.read_names.proofs.Grown.{name_ranged}
use Rattle.read_items.specs.Promises.{Lent, Good}

-- ---- answers of one shape
abbrev seen_by : {B C : Type 0} → (B → C) → S.Got B → S.Got C
seen_by f (S.got b next v) = S.got (f b) next v
seen_by f (S.refused n p) = S.refused n p

pub record Is {B C : Type 0} (f : B → C) (a : S.Got B) (x : C) (next : ℕ) (v : Vocabulary Located) : Type 0 where
  pub what : B
  pub is : a ≡ S.got what next v
  pub seen : f what ≡ x

got_is : {B C : Type 0} (f : B → C) (a : S.Got B) (x : C) (next : ℕ) (v : Vocabulary Located) → S.got x next v ≡ seen_by f a → Is f a x next v
got_is f (S.got b k u) x next v e = record { what = b; is = cc; seen = cc }
got_is f (S.refused n p) x next v e = absurd (let z : ◌≡◌ {A = ℕ} 0 1 = cc in omega arith)

refused_is : {B C : Type 0} (f : B → C) (a : S.Got B) (n p : ℕ) → S.refused n p ≡ seen_by f a → a ≡ S.refused n p
refused_is f (S.got b k u) n p e = absurd (let z : ◌≡◌ {A = ℕ} 0 1 = cc in omega arith)
refused_is f (S.refused m q) n p e = cc

-- ---- an identifying string
abbrev pub as_id : IdRead → Seen
as_id b = record { text = event_string b.string; number = b.number }

id_seen_lem : (a : S.Got IdRead) → id_seen a ≡ seen_by as_id a
id_seen_lem (S.got b next v) = refl
id_seen_lem (S.refused n p) = refl

module _ (a : S.Got IdRead) (table : ℕ) (d v : Words) where
  pub id_not : (f : Fault) → seen_id table (Err f) d v ≡ id_seen a → a ≡ S.refused (refusal_number f.refusal) f.at
  id_not f q = refused_is as_id a _ _ (q ∙ id_seen_lem a)

  pub id_is : (x : Read ℕ) → seen_id table (Ok x) d v ≡ id_seen a
      → Is as_id a (record { text = event_string_at v table x.value; number = x.value }) x.next.at (vocabulary (unlisted d) v)
  id_is x q = got_is as_id a _ _ _ (q ∙ id_seen_lem a)

-- ---- a string without a number
abbrev pub as_string : StringRead → EventString
as_string b = event_string b.string

string_seen_lem : (a : S.Got StringRead) → string_seen a ≡ seen_by as_string a
string_seen_lem (S.got b next v) = refl
string_seen_lem (S.refused n p) = refl

module _ (a : S.Got StringRead) (d v : Words) where
  pub string_not : (f : Fault) → seen_field (Err f) d v ≡ string_seen a → a ≡ S.refused (refusal_number f.refusal) f.at
  string_not f q = refused_is as_string a _ _ (q ∙ string_seen_lem a)

  pub string_is : (x : Read EventString) → seen_field (Ok x) d v ≡ string_seen a → Is as_string a x.value x.next.at (vocabulary (unlisted d) v)
  string_is x q = got_is as_string a _ _ _ (q ∙ string_seen_lem a)

-- ---- a name
abbrev pub as_name : NameRead → Parts
as_name b = record { prefix = optional_event_string b.name.prefix; namespace = optional_event_string b.name.namespace; local = event_string b.name.local }

name_seen_lem : (a : S.Got NameRead) → name_seen a ≡ seen_by as_name a
name_seen_lem (S.got b next v) = refl
name_seen_lem (S.refused n p) = refl

module _ (a : S.Got NameRead) (table : ℕ) (d v : Words) where
  pub name_not : (f : Fault) → seen_name table (Err f) d v ≡ name_seen a → a ≡ S.refused (refusal_number f.refusal) f.at
  name_not f q = refused_is as_name a _ _ (q ∙ name_seen_lem a)

  pub name_is : (x : Read ℕ) → seen_name table (Ok x) d v ≡ name_seen a → Is as_name a (name_strings_at v table x.value) x.next.at (vocabulary (unlisted d) v)
  name_is x q = got_is as_name a _ _ _ (q ∙ name_seen_lem a)

-- ---- a declaration
abbrev pub as_declared : DeclaredRead → Parts
as_declared b = record { prefix = optional_event_string b.prefix; namespace = optional_event_string b.namespace; local = Absent }

declared_seen_lem : (a : S.Got DeclaredRead) → declared_seen a ≡ seen_by as_declared a
declared_seen_lem (S.got b next v) = refl
declared_seen_lem (S.refused n p) = refl

module _ (a : S.Got DeclaredRead) (d v : Words) where
  pub declared_not : (f : Fault) → seen_declared (Err f) d v ≡ declared_seen a → a ≡ S.refused (refusal_number f.refusal) f.at
  declared_not f q = refused_is as_declared a _ _ (q ∙ declared_seen_lem a)

  pub declared_is : (x : Read Binding) → seen_declared (Ok x) d v ≡ declared_seen a
      → Is as_declared a (record { prefix = event_string_at v 0 x.value.prefix; namespace = event_string_at v 1 x.value.namespace; local = Absent }) x.next.at (vocabulary (unlisted d) v)
  declared_is x q = got_is as_declared a _ _ _ (q ∙ declared_seen_lem a)

-- ---- what is left
pub near : {s d v x : List ℕ} {at : ℕ} → Tidy s d v x → at ≤ length s → at ≤ farthest
near t h = let z = t.size in omega arith

-- Behind a field the reader is in order again.
pub moved_good : {s : Octets} {b : Lent} {c w : Words} (st : State) (next m : ℕ) → Left s c w next b.counts b.tables b.index → st.level + coming m ≤ 32
    → Good s (moved_to st next m) b
moved_good st next m l d = record { tidy = l.tidy; at = let z = l.within in omega arith; shallow = d }

-- The name's number is that of a row whose numbers are those of rows.
pub name_there : {s d v x : List ℕ} → Tidy s d v x → (table n : ℕ) → 8 ≤ table → table < 10 → 1 ≤ n → n ≤ count_of (unlisted d) table → NameThere v table n
unfolding count_of
name_there {s = s} {d = d} {v = v} {x = x} t table n low high from to =
    let r = name_ranged s d v x t table n low high from to in
    let e = t.counted table in
    let p = t.counted 0 in
    let q = t.counted 1 in
    let l = t.counted 2 in
    let r0 = r.0 in
    let r1 = r.1 in
    let r3 = r.3 in
    (t.room, low, high, from, (omega arith), (omega arith), (omega arith), (omega arith))
