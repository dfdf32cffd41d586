-- `eight::name_ends` meets its contract: its rule holds of each of the 256 bytes, and so of eight of them.
use mathlib.Core.Path.{refl, sym, ap₂, ◌∙◌}
use native.Mathlib.Omega.{arith}
use lib.Bits.{bit_xor}
use Rattle.lexer.specs.Bytes.{in_name}
use Rattle.lexer.specs.Eight.{mark, other}
use Rattle.lexer.proofs.EightBits.{xors, all, equal}
use Rattle.lexer.proofs.EightBytes.{same, small}
use Rattle.lexer.proofs.eight.name_ends.Goals as goal

pub returns : goal.returns
returns c l p =
    ap₂ bit_xor (c.others.ensures l p) (sym (all 128 l p.long))
    ∙ xors (other 32 9 13) (λ b. 128) (small (other 32 9 13) refl) (λ b h. omega arith) l p.bytes
    ∙ equal (λ b. bit_xor (other 32 9 13 b) 128) (mark in_name) (same (λ b. bit_xor (other 32 9 13 b) 128) (mark in_name) refl) l p.bytes
