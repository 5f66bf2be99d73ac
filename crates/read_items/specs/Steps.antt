-- One step of reading: an end, which stands at a half of an octet, or the item behind the padding that is due.
use Rattle.std.specs.Prelude.{ℕ, suc, ◌*◌, ◌/◌, ◌%◌, Bool, true, false, ◌&&◌, ◌||◌, length, get_or, take, drop, eqb, ltb}
use Rattle.format.specs.Octets.{Octets}
use Rattle.format.specs.Numbers.{pick}
use Rattle.format.specs.Events.{End, for_end, ◌by◌}
use Rattle.format.specs.Tables.{Version}
use Rattle.format.specs.Items.{Mode, content, declaring, listing, moved}
use Rattle.format.specs.Document.{halves, aligned, closed}
use Rattle.format.specs.Refusals.{CODE, PADDING, STRUCTURE}
use Rattle.read_items.specs.Items.{Stand, Step, more, quiet, done, stop, item_at}

-- The half at a place counted in halves; 16 where there is none.
unfoldable pub half_at : Octets → ℕ → ℕ
half_at s at = get_or (halves (take 1 (drop (at / 2) s))) (at % 2) 16

-- An end stands there; the padding that is due there is right.
unfoldable pub ends_at : Octets → ℕ → Bool
ends_at s at = eqb (half_at s at) 15

unfoldable pub pads_at : Octets → ℕ → Bool
pads_at s at = eqb (at % 2) 0 || eqb (half_at s at) 0

-- The document's end: no root (15); bits 5 to 8 (6); octets behind it (15).
unfoldable pub document_end : Octets → Stand → Step
document_end s m =
    pick m.state.root
    (pick (pads_at s (suc m.at))
    (pick (eqb (aligned (suc m.at)) (2 * length s)) done (stop STRUCTURE (aligned (suc m.at) / 2)))
    (stop PADDING (m.at / 2)))
    (stop STRUCTURE (m.at / 2))

-- 1111 ends an attribute list, which has a member (15), an element, or the document.
unfoldable pub end_at : Octets → Stand → Mode → Step
end_at s m (listing true) = quiet (record { at = suc m.at; state = moved m.state m.state.tables content })
end_at s m (listing false) = stop STRUCTURE (m.at / 2)
end_at s m (declaring a) = stop CODE (m.at / 2)
end_at s m content = pick (ltb 0 m.state.level) (more (m.at / 2) (End by for_end) (record { at = suc m.at; state = closed m.state })) (document_end s m)

-- Declarations are ended by an octet, F0, and not by a half.
abbrev pub by_halves : Mode → Bool
by_halves content = true
by_halves (declaring a) = false
by_halves (listing some) = true

module _ (ver : Version) where
  -- One step: an end, or the item at the next octet behind padding that is right (6).
  unfoldable pub step : Octets → Stand → Step
  step s m =
      pick (by_halves m.state.mode && ends_at s m.at) (end_at s m m.state.mode)
      (pick (pads_at s m.at) (item_at ver s (aligned m.at / 2) m.state m.state.mode) (stop PADDING (m.at / 2)))
