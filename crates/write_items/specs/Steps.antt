-- One event of a list: what is owed before it, the halves that it is written as, and whether it is refused.
use Rattle.std.specs.Prelude.{ℕ, ◌+◌, ◌*◌, ◌/◌, min, Bool, true, false, not, ◌&&◌, List, [], ◌∷◌, ◌++◌, length, leb}
use Rattle.format.specs.Octets.{Octets, Halves}
use Rattle.format.specs.Numbers.{pick}
use Rattle.format.specs.Events as E
use Rattle.format.specs.Tables.{Version}
use Rattle.format.specs.Items.{Mode, content, State, moved}
use Rattle.format.specs.Document.{halves, pad, aligned}
use Rattle.format.specs.Refusals.{TEXT, FULL, DEPTH, ROOM, EVENT}
use Rattle.events.specs.declared.Kind.TheVariants.{Blank, Namespace, Start, Attribute, Chunk, Comment, Instruction, End}
use Rattle.events.specs.declared.Event.{Event}
use Rattle.tables.specs.Located.{Located}
use Rattle.write_names.specs.Choices.{within}
use Rattle.write_items.specs.Events.{well_made, event_of, is_declaring, is_listing, goes_on, all_text}
use Rattle.write_items.specs.Items.{WroteItem}

-- The next event is an attribute; the element's Start, behind its declarations, is followed by one.
abbrev pub attribute_next : List Event → Bool
attribute_next [] = false
attribute_next (e ∷ es) = elim e.kind [ Blank ↦ false | Namespace ↦ false | Start ↦ false | Attribute ↦ true | Chunk ↦ false | Comment ↦ false | Instruction ↦ false | End ↦ false ]

unfoldable pub announced : List Event → Bool
announced [] = false
announced (e ∷ es) =
    elim e.kind [ Blank ↦ false | Namespace ↦ announced es | Start ↦ attribute_next es | Attribute ↦ false | Chunk ↦ false | Comment ↦ false | Instruction ↦ false | End ↦ false ]

abbrev pub is_attribute : {S : Type 0} → E.Event S → Bool
is_attribute (E.Namespace p n) = false
is_attribute (E.Start x) = false
is_attribute (E.Attribute x y) = true
is_attribute (E.Text y) = false
is_attribute (E.Comment y) = false
is_attribute (E.Instruction x y) = false
is_attribute E.End = false

abbrev pub is_end : {S : Type 0} → E.Event S → Bool
is_end (E.Namespace p n) = false
is_end (E.Start x) = false
is_end (E.Attribute x y) = false
is_end (E.Text y) = false
is_end (E.Comment y) = false
is_end (E.Instruction x y) = false
is_end E.End = true

-- The first event of an element.
abbrev pub opens : {S : Type 0} → Mode → E.Event S → Bool
opens m (E.Namespace p n) = not (is_declaring m)
opens m (E.Start x) = not (is_declaring m)
opens m (E.Attribute x y) = false
opens m (E.Text y) = false
opens m (E.Comment y) = false
opens m (E.Instruction x y) = false
opens m E.End = false

-- The end of an attribute list is owed before the next event that is no attribute; then the list is behind us.
unfoldable pub owed : {S : Type 0} → Mode → E.Event S → Halves
owed m e = pick (is_listing m && not (is_attribute e)) (15 ∷ []) []

unfoldable pub settled : {S : Type 0} → State S → E.Event S → State S
settled v e = pick (is_listing v.mode && not (is_attribute e)) (moved v v.tables content) v

module _ (ver : Version) (text : Octets) (room : ℕ) where
  -- So many halves, in whole octets, fit the output lent and the limit of a document.
  unfoldable pub fits : ℕ → Bool
  fits at = leb (aligned at / 2) (min room ver.octets)

  -- An event's halves from the half `at`: the end owed; then 1111 for an End, or the octets from the next whole octet.
  unfoldable pub halves_of : ℕ → State Located → E.Event Located → WroteItem → Halves
  halves_of at v e w = owed v.mode e ++ pick (is_end e) (15 ∷ []) (pad (at + length (owed v.mode e)) ++ halves w.octets)

  -- One event: not well made or not in its place (16), not text (9), too deep (13), a table full (12), no room (14).
  unfoldable pub judge : ℕ → State Located → Event → WroteItem → Halves → ℕ
  judge at v e w hs =
      pick (well_made text e.kind e && goes_on v (event_of e.kind e))
      (pick (all_text text (event_of e.kind e))
      (pick (opens v.mode (event_of e.kind e) && leb ver.depth v.level) DEPTH
      (pick (within ver w.state.tables) (pick (fits (at + length hs)) 0 ROOM) FULL))
      TEXT)
      EVENT

-- Octets of halves.
unfoldable pub joined : Halves → Octets
joined [] = []
joined (h ∷ []) = (16 * h) ∷ []
joined (h ∷ l ∷ hs) = (16 * h + l) ∷ joined hs
