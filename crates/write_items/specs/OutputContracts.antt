-- Contracts of the code, not definitions to be believed. What the lent output holds while a document is written: the code clears it first and leaves out what it has no room for.
use Rattle.std.specs.Prelude.{ℕ, ◌+◌, ◌%◌, ◌≡◌, [], ◌∷◌, ◌++◌, length, replicate, eqb}
use Rattle.std.proofs.lemmas.List.Edits.{sets}
use Rattle.format.specs.Octets.{Octets, Halves}
use Rattle.format.specs.Numbers.{pick}
use Rattle.write_items.specs.Steps.{joined}

-- The last of these halves is an end.
pub record Ended (hs : Halves) : Type 0 where
  pub before : Octets
  pub is : hs ≡ before ++ (15 ∷ [])

-- The output, of `size` octets, holds these halves, which are the document's so far, as far as it reaches, and 0 behind them; `at` is the half behind them. What
-- stands before the body and items are whole octets, so only an end leaves the last octet half filled: the next end has to keep that half.
pub record Holds (size : ℕ) (hs : Halves) (at : ℕ) (out : Octets) : Type 0 where
  pub behind : at ≡ length hs
  pub is : out ≡ sets (replicate size 0) 0 (joined hs)
  pub ends : at % 2 ≡ 1 → Ended hs

-- The octet of an end at the half `at`, when what stands before it in the octet is an end too.
unfoldable pub end_octet : ℕ → ℕ
end_octet at = pick (eqb (at % 2) 0) 0xF0 0xFF

-- The halves ks are written behind hs, which ended at the half `at`; `next` is the half behind them.
pub record Grown (size : ℕ) (hs ks : Halves) (at next : ℕ) (out : Octets) : Type 0 where
  pub holds : Holds size (hs ++ ks) (at + length ks) out
  pub place : next ≡ at + length ks
