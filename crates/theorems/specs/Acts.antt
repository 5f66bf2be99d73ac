-- What ties acts (format/specs/Uses) to choices and to what is known between items: every number of a choice is a number that the acts use, and after each item the tables hold
-- what the acts up to it made.
use Rattle.std.specs.Prelude.{ℕ, zero, suc, List, [], ◌∷◌, ◌++◌}
use Rattle.std.proofs.Math.Option.{Option, none, some}
use Rattle.format.specs.Octets.{Octets}
use Rattle.format.specs.Events.{Name, How, spelled, numbered, NameHow, in_parts, by_number, Choice, for_namespace, for_start, for_attribute, for_text, for_comment, for_instruction, for_end, Item}
use Rattle.format.specs.Tables.{Tables}
use Rattle.format.specs.Items.{State}
use Rattle.format.specs.Uses.{Act, makes, uses, makes_name, uses_name, of_item, after, Holds}

-- The numbers in a choice, in order. The 0 of the empty string is no entry's number.
abbrev pub number_in : How → List ℕ
number_in (spelled form added) = []
number_in (numbered zero) = []
number_in (numbered (suc k)) = suc k ∷ []

abbrev pub number_if_any : Option How → List ℕ
number_if_any none = []
number_if_any (some h) = number_in h

abbrev pub numbers_in_name : NameHow → List ℕ
numbers_in_name (in_parts p n l) = number_if_any p ++ (number_if_any n ++ number_in l)
numbers_in_name (by_number k) = k ∷ []

abbrev pub numbers_in : Choice → List ℕ
numbers_in (for_namespace p n) = number_if_any p ++ number_if_any n
numbers_in (for_start h) = numbers_in_name h
numbers_in (for_attribute h g) = numbers_in_name h ++ number_in g
numbers_in (for_text h) = number_in h
numbers_in (for_comment h) = number_in h
numbers_in (for_instruction h g) = number_in h ++ number_in g
numbers_in for_end = []

abbrev pub all_numbers : {S : Type 0} → List (Item S) → List ℕ
all_numbers [] = []
all_numbers (i ∷ items) = numbers_in i.choice ++ all_numbers items

-- The numbers that acts use, in order.
abbrev pub used : {S : Type 0} → List (Act S) → List ℕ
used [] = []
used (makes t x ∷ l) = used l
used (uses t k x ∷ l) = k ∷ used l
used (makes_name t x ∷ l) = used l
used (uses_name t k x ∷ l) = k ∷ used l

-- From the tables v on: what is known after each item, one for each.
abbrev pub HoldAfter : Tables Octets (Name Octets) → List (Item Octets) → List (State Octets) → Type 0
HoldAfter v [] [] = Unit {0}
HoldAfter v [] (k ∷ known) = ⊥
HoldAfter v (i ∷ items) [] = ⊥
HoldAfter v (i ∷ items) (k ∷ known) = Holds k.tables (after v (of_item i)) × HoldAfter (after v (of_item i)) items known
