-- Contracts of the code, not definitions to be believed. An integer's text, octet by octet: what is still to come.
use Rattle.std.specs.Prelude.{◌≤◌, ◌∷◌}
use Rattle.format.specs.Octets.{Octets}
use Rattle.format.specs.Numbers.{pick}
use Rattle.format.specs.Integers.{figures}
use Rattle.decimal.specs.declared.printing.Text.{Text}

-- The minus sign, where it is to come, and then the lowest digits.
unfoldable pub left : Text → Octets
left t = pick t.minus (0x2D ∷ figures 10 0x30 t.count t.number) (figures 10 0x30 t.count t.number)

-- No number of 64 bits has more digits.
abbrev pub Good : Text → Type 0
Good t = t.count ≤ 20
