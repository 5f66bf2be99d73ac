-- The name behind a triple: as the rules have it, and as the reader computes it with some string d.
use Prim.Native.Nat.{ℕ, zero, suc, ◌-◌, ◌≤◌, ◌<◌}
use mathlib.Core.Path.{◌≡◌, refl, ap}
use mathlib.Core.Option.{Option, some}
use mathlib.Core.List.{List}
use native.Mathlib.Omega.{arith}
use lib.ListN.{length, get_or}
use Rattle.format.specs.Events.{Name}
use Rattle.format.specs.Tables.{Triple, Vocabulary, Behind, nothing, an_entry, Means}
use Rattle.tables.proofs.EntryLaws.{entry_is, entry_at}
use Rattle.read_names.specs.Names.{part_of, name_of}

module _ {S : Type 0} (d : S) where
  part_is : {l : List S} {n : ℕ} {x : Option S} → Behind l n x → part_of l d n ≡ x
  part_is nothing = refl
  part_is (an_entry e) = ap some (entry_is d e)

  local_is : (l : List S) (n : ℕ) (x : S) → part_of l d n ≡ some x → get_or l (n - 1) d ≡ x
  local_is l zero x e = cc
  local_is l (suc k) x e = let y : suc k - 1 ≡ k = omega arith in rw y (cc)

  pub means_is : {v : Vocabulary S} {x : Triple} {y : Name S} → Means v x y → name_of v d x ≡ y
  unfolding name_of
  means_is {v} {x} {y} m = λ j. record { prefix = part_is m.prefix j; namespace = part_is m.namespace j; local = local_is v.locals x.local y.local (part_is m.local) j }

  -- and back, where the numbers are of entries that are there
  part_at : (l : List S) (n : ℕ) → n ≤ length l → Behind l n (part_of l d n)
  part_at l zero h = nothing
  part_at l (suc k) h = an_entry (entry_at l k d h)

  local_at : (l : List S) (n : ℕ) → 0 < n → n ≤ length l → Behind l n (some (get_or l (n - 1) d))
  local_at l zero low h = absurd (omega arith)
  local_at l (suc k) low h = let y : suc k - 1 ≡ k = omega arith in rw y (an_entry (entry_at l k d h))

  pub means_at : (v : Vocabulary S) (x : Triple) → x.prefix ≤ length v.prefixes → x.namespace ≤ length v.namespaces → 0 < x.local → x.local ≤ length v.locals
      → Means v x (name_of v d x)
  unfolding name_of
  means_at v x a b c e = record { prefix = part_at v.prefixes x.prefix a; namespace = part_at v.namespaces x.namespace b; local = local_at v.locals x.local c e }
