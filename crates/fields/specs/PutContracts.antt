-- Contracts of the code, not definitions to be believed. What putting octets into the output leaves.
use Rattle.std.specs.Prelude.{◌≡◌, ℕ, ◌+◌, length}
use Rattle.std.proofs.lemmas.List.Edits.{sets}
use Rattle.format.specs.Octets.{Octets}

-- The octets os, put at `at`: r is the place behind them, and the output holds as many of them as it has room for.
pub record Puts (out : Octets) (at r : ℕ) (out' os : Octets) : Type 0 where
  pub behind : r ≡ at + length os
  pub is : out' ≡ sets out at os
