-- Words that have no record for an event are left as they are.
-- Assumes nothing.
use mathlib.Core.Path.{◌≡◌}
use mathlib.Core.List.{List}
use Prim.Native.Nat.{ℕ, ◌/◌, ◌≤◌}
use borrow.Author.Tests.{le-ltb}
use lib.ListN.{length}
use Rattle.events.specs.declared.Event.{Event}
use Rattle.events.specs.Kept.{kept}

module _ (w : List ℕ) (n place : ℕ) (e : Event) where
  pub kept_not : length w / 14 ≤ n → w ≡ kept w n place e
  unfolding kept
  kept_not h = rw (le-ltb _ _ h)
