-- `sorter::heap` meets its contract: from the middle on there are no children, and each entry before it that sinks makes the heap reach one further.
use native.Mathlib.Omega.{arith}
use Rattle.sorter.proofs.Rounds.{heaping_start, heaping_fit, heaping_next, heaping_end}
use Rattle.sorter.proofs.heap.Goals as goal

pub loop-i-init : goal.loop-i-init
loop-i-init c =
    heaping_start _ _

pub sift-requires : goal.sift-requires
sift-requires c =
    let l = c.loop-i in
    (omega (arith, l.invariant.within), heaping_fit _ _ _ _ l.invariant)

pub loop-i-preserved : goal.loop-i-preserved
loop-i-preserved c =
    let b = c in
    heaping_next _ _ _ _ b.loop-i.invariant _ b.loop-i-test.true c.sift.ensures

pub returns : goal.returns
returns c =
    heaping_end _ _ _ _ c.loop-i.invariant (omega arith)
