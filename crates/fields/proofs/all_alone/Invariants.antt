-- `all_alone` meets its contract: of each stretch no octet so far is raised to less than `low`.
-- Assumes nothing.
use Rattle.std.proofs.Common.{◌≡◌, ℕ, ◌+◌, ◌<◌, ◌≤◌, true, List, get_or}
use Rattle.fields.specs.Utf8.{alone}
use Rattle.fields.proofs.all_alone.Given as goal

-- where low is a space or more, the octet at j is a character by itself, if it is not high
abbrev pub Single : List ℕ → (low j : ℕ) → Type 0
Single s low j = 0x20 ≤ low → get_or s j 0 ≤ 0x7F → alone (get_or s j 0) ≡ true

abbrev pub invariant-loop-i : goal.invariant-loop-i
invariant-loop-i l = ((j : ℕ) → j < l.i → Single l.s l.low j) × ((j : ℕ) → j < l.i → Single l.s l.low (l.second + j))
