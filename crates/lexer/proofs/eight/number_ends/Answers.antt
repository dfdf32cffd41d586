-- `eight::number_ends` meets its contract: its rule holds of each of the 256 bytes, and so of eight of them.
use mathlib.Core.Path.{refl, ◌∙◌}
use Rattle.lexer.specs.Bytes.{in_number}
use Rattle.lexer.specs.Eight.{mark, other}
use Rattle.lexer.proofs.EightBits.{equal}
use Rattle.lexer.proofs.EightBytes.{same}
use Rattle.lexer.proofs.eight.number_ends.Goals as goal

pub returns : goal.returns
returns c l p =
    c.others.ensures l p ∙ equal (other 46 48 57) (mark in_number) (same (other 46 48 57) (mark in_number) refl) l p.bytes
