-- Contracts of the code, not definitions to be believed. How the head in lent output, tables and counts stands for its definition.
use Rattle.std.specs.Prelude.{ℕ, ◌≤◌, ◌≡◌, length, replicate, Result, Ok, Err}
use Rattle.std.proofs.lemmas.List.Edits.{sets}
use Rattle.format.specs.Octets.{Octets, Words}
use Rattle.format.specs.Tables.{link}
use Rattle.format.specs.Refusals.{refusal_number}
use Rattle.format.specs.declared.refusals.Refusal.{Refusal}
use Rattle.write_names.specs.Promises.{tables_in, InOrder}
use Rattle.write_head.specs.Given.{given_of}
use Rattle.write_head.specs.Head.{tables_of, head_octets, fault_of_given}

-- The words g were right, judged by `room`: the body starts at octet `at`, behind the octets of the head, which are in the output as far as this reaches; c and w are the words of counts and tables then,
-- which hold what is built in and what was given, and x is the index.
pub record Opened (g : Words) (text : Octets) (room at : ℕ) (out : Octets) (c w : Words) (x : Octets) : Type 0 where
  pub right : fault_of_given link text g room ≡ 0
  pub behind : at ≡ length (head_octets link text (given_of g))
  pub near : at ≤ 16384
  pub written : out ≡ sets (replicate (length out) 0) 0 (head_octets link text (given_of g))
  pub tables : tables_in c w ≡ tables_of link (given_of g)
  pub order : InOrder text c w x

abbrev pub Opens : (g : Words) (text : Octets) (room : ℕ) → Result ℕ Refusal → (out : Octets) (c w : Words) (x : Octets) → Type 0
Opens g text room (Ok at) out c w x = Opened g text room at out c w x
Opens g text room (Err r) out c w x = fault_of_given link text g room ≡ refusal_number r
