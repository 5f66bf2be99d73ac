-- Octets put one behind the other by a loop that does not know how many there will be.
-- Assumes nothing.
use mathlib.Core.Path.{◌≡◌, refl, sym, ◌∙◌}
use mathlib.Core.List.{List, [], ◌∷◌}
use Prim.Native.Nat.{ℕ, ◌+◌}
use lib.ListN.{length, set}
use lib.Seq.{sets, length-sets}
use Rattle.fields.specs.PutContracts.{Puts}
use Rattle.fields.proofs.Puts.{puts_kept, puts_nothing, puts_octet}

-- Once `rest` is put from i on, all of it is put from `at` on.
abbrev pub Left : (out₀ : List ℕ) (at : ℕ) (all out : List ℕ) (i : ℕ) (rest : List ℕ) → Type 0
Left out₀ at all out i rest = (r : ℕ) (out' : List ℕ) → Puts out i r out' rest → Puts out₀ at r out' all

module _ (out₀ : List ℕ) (at : ℕ) (all out : List ℕ) (i : ℕ) where
  pub left_done : (rest : List ℕ) → rest ≡ [] → Left out₀ at all out i rest → Puts out₀ at i out all
  left_done rest e f = f i out (rw e (puts_nothing refl))

  pub left_next : (rest : List ℕ) (b : ℕ) (more out₁ : List ℕ) → rest ≡ b ∷ more → out₁ ≡ set out i b → Left out₀ at all out i rest → Left out₀ at all out₁ (i + 1) more
  left_next rest b more out₁ e d f r out' p = f r out' (rw e (puts_octet d p))

  module _ (rest : List ℕ) (f : Left out₀ at all out i rest) where
    finished : Puts out₀ at (i + length rest) (sets out i rest) all
    finished = f (i + length rest) (sets out i rest) (record { behind = refl; is = refl })

    pub left-place : i + length rest ≡ at + length all
    left-place = finished.behind

    -- the output is as long as it was at first
    pub left-kept : length out ≡ length out₀
    left-kept = sym (length-sets out i rest) ∙ puts_kept finished
