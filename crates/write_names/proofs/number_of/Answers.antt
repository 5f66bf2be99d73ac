-- `number_of` meets its contract: a law for each way out.
-- Assumes nothing.
use native.Mathlib.Omega.{arith}
use Rattle.write_names.proofs.StringLaws.{held_absent, held_empty, held_stretch, held_prefix, held_namespace, suits_utf8, find_ready}
use Rattle.write_names.proofs.number_of.Goals as goal

pub find-requires : goal.find-requires
find-requires c =
    find_ready _ _ _ _ _ c.requires.0 (omega arith) c.requires.1 _ _ _ _ c.in-Stretch.is c.requires.2

pub returns-in-Absent : goal.returns-in-Absent
returns-in-Absent c = held_absent _ _ _ _ _ c.requires.0 _ c.in-Absent.is

pub returns-in-Empty : goal.returns-in-Empty
returns-in-Empty c =
    held_empty _ _ _ _ _ c.requires.0 _ c.in-Empty.is c.requires.2

pub returns-in-Stretch : goal.returns-in-Stretch
returns-in-Stretch c =
    held_stretch _ _ _ _ _ c.requires.0 _ _ _ _ _ (suits_utf8 _ _ _ _ _ _ c.in-Stretch.is c.requires.2) (omega arith) c.find.ensures

pub returns-in-XmlPrefix : goal.returns-in-XmlPrefix
returns-in-XmlPrefix c =
    held_prefix _ _ _ _ _ c.requires.0 _ c.in-XmlPrefix.is c.requires.2

pub returns-in-XmlNamespace : goal.returns-in-XmlNamespace
returns-in-XmlNamespace c =
    held_namespace _ _ _ _ _ c.requires.0 _ c.in-XmlNamespace.is c.requires.2
