-- `parser::value::begun` meets its contract: a word that begins no value is refused, and one that does is a byte.
use Prim.Native.Nat.{◌%◌}
use mathlib.Core.Path.{◌≡◌}
use native.Mathlib.Omega.{arith}
use Rattle.parser.proofs.value.begun.Goals as goal

pub returns-then-begins : goal.returns-then-begins
returns-then-begins c s b =
    let w = c.args.first in
    let e : w % 256 ≡ w = omega arith in
    rw (c.if-begins.true, e)

pub returns : goal.returns
returns c s b =
    rw (c.complain.ensures, c.if-begins.false)
