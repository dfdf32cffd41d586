-- `inside` meets its contract: its two tests together say whether the span reaches outside of the text.
use Prim.Native.Nat.{◌+◌}
use borrow.Author.Tests.{le-leb, lt-leb}
use native.Mathlib.Omega.{arith}
use Rattle.lef.specs.Border.{inside}
use Rattle.lef.proofs.told.inside.Goals as goal

pub returns-then-size-start : goal.returns-then-size-start
unfolding inside
returns-then-size-start c =
    let a = c.args in
    rw (lt-leb (a.start + a.len) a.size (omega arith))

pub returns-then-size-start-2 : goal.returns-then-size-start-2
unfolding inside
returns-then-size-start-2 c =
    let a = c.args in
    rw (lt-leb (a.start + a.len) a.size (omega arith))

pub returns : goal.returns
unfolding inside
returns c =
    let a = c.args in
    rw (le-leb (a.start + a.len) a.size (omega arith))
