-- `integer` meets its contract: the sign, or the first digit.
-- Assumes nothing.
use Rattle.forms.proofs.Streams.{digits_fine, text_minus, text_digit}
use Rattle.forms.proofs.Said.integer.Goals as goal

pub digit-requires : goal.digit-requires
digit-requires c = let p = c.requires in (digits_fine c.args.self.now c.args.text p.0 p.3, p.1, p.2)

pub returns-then-text : goal.returns-then-text
returns-then-text c = let p = c.requires in text_minus c.args.self.now p.1 c.args.text p.2 p.0 p.3 c.if-text.true

pub returns : goal.returns
returns c = let p = c.requires in text_digit c.args.self.now p.1 c.args.text p.2 p.0 p.3 c.if-text.false _ _ c.digit.ensures
