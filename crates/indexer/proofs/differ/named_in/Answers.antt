-- `named_in` meets its contract: so far the sum, and with what is left, is that of all entries.
use mathlib.Core.Path.{ap}
use native.Mathlib.Omega.{arith}
use Rattle.ordered.specs.Counted.{total}
use Rattle.ordered.proofs.Totals.{total_first, total_none}
use Rattle.indexer.specs.Inner.{len}
use Rattle.indexer.proofs.Filling.{left}
use Rattle.indexer.proofs.differ.named_in.Goals as goal

pub loop-e-preserved : goal.loop-e-preserved
loop-e-preserved c =
    let e = ap (total len) c.in-Some.ensures.steps in
    let t = total_first len c.in-Some.e (left c.next.new.self.0.now) in
    let i = c.loop-e.invariant.sum in
    record { most = omega arith; sum = omega (arith, e, t, i) }

pub returns : goal.returns
returns c =
    let e = ap (total len) c.in-None.ensures.steps.0 in
    let i = c.loop-e.invariant.sum in
    omega (arith, e, total_none len, i)
