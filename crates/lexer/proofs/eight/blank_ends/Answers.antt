-- `eight::blank_ends` meets its contract: its rule holds of each of the 256 bytes, and so of eight of them.
use mathlib.Core.Path.{refl, ◌∙◌}
use Rattle.lexer.specs.Eight.{is_blank}
use Rattle.lexer.specs.Eight.{mark, other}
use Rattle.lexer.proofs.EightBits.{equal}
use Rattle.lexer.proofs.EightBytes.{same}
use Rattle.lexer.proofs.eight.blank_ends.Goals as goal

pub returns : goal.returns
returns c l p =
    c.others.ensures l p ∙ equal (other 32 33 32) (mark is_blank) (same (other 32 33 32) (mark is_blank) refl) l p.bytes
