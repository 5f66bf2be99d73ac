-- Reading an entry of the head stays within the octets: the place behind it, and a refusal's place. A refusal's number is at most 15.
-- Assumes nothing.
use mathlib.Core.Bool.{Bool, true, false}
use mathlib.Core.List.{List}
use Prim.Native.Nat.{ℕ, ◌/◌, ◌%◌, ◌≤◌}
use native.Mathlib.Omega.{arith}
use lib.Dec.{eqb, ltb, leb}
use lib.ListN.{length, get_or}
use Rattle.format.specs.Numbers.{c25, top}
use Rattle.format.specs.Tables.{StringTable, NameTable, Triple, Vocabulary, names, holds_name, Version}
use Rattle.format.specs.Head.{c19}
use Rattle.tables.specs.Located.{Located}
use Rattle.read_names.specs.Strings.{Got, got, refused, id_at, spelled_at}
use Rattle.read_names.specs.NameContracts.{new_name}
use Rattle.read_names.proofs.StringLaws.{tests}
use Rattle.read_names.proofs.Places.{Within, number-within, id_within, spelled_within}
use Rattle.read_head.specs.Head.{passing, part_at, identifying_at, another_at}

module _ (s : List ℕ) where
  pub passing-within : {B : Type 0} (g : Got B) → Within s g → Within s (passing g)
  passing-within (got b next v) h = h
  passing-within (refused n p) h = h

  pub part-within : (there : Bool) (entries k : ℕ) (v : Vocabulary Located) → k ≤ length s → Within s (part_at there entries s k v)
  unfolding part_at
  part-within false entries k v h = h
  part-within true entries k v h =
      tests (Within s) (eqb (get_or s k 0 / 16 % 8) 7) _ _ (λ _. omega arith)
      λ _. tests (Within s) (ltb (get_or s k 0) 0x80) _ _
      (λ _. number-within s c25 top 2 k _ h λ n next l. tests (Within s) (leb n entries) _ _ (λ _. l) (λ _. omega arith))
      (λ _. omega arith)

  module _ (ver : Version) where
    pub new_within : (t : NameTable) (x : Triple) (k next : ℕ) (v : Vocabulary Located) → k ≤ length s → next ≤ length s → Within s (new_name ver t x k next v)
    unfolding new_name
    new_within t x k next v h l =
        tests (Within s) (holds_name (names v t) x) _ _ (λ _. omega arith) λ _. tests (Within s) (ltb (length (names v t)) ver.entries) _ _ (λ _. l) (λ _. omega arith)

    pub identifying_within : (t : StringTable) (k : ℕ) (v : Vocabulary Located) → k ≤ length s → Within s (identifying_at ver t s k v)
    unfolding identifying_at
    identifying_within t k v h = tests (Within s) (ltb (get_or s k 0) 0x80) _ _ (λ _. passing-within (id_at ver s t k v) (id_within s ver t k v h)) (λ _. omega arith)

    pub another-within : (t : StringTable) (k : ℕ) (v : Vocabulary Located) → k ≤ length s → Within s (another_at ver t s k v)
    unfolding another_at
    another-within t k v h =
        tests (Within s) (ltb (get_or s k 0) 0x40) _ _ (λ _. passing-within (spelled_at ver c19.length_bit s t k true v) (spelled_within s ver c19.length_bit t k true v h)) (λ _. omega arith)
