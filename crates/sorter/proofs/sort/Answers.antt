-- `sorter::sort` meets its contract: round by round the greatest of the heap goes before those that are sorted.
use mathlib.Core.Path.{◌∙◌}
use native.Mathlib.Omega.{arith}
use Rattle.sorter.proofs.Rounds.{rounds_start, rounds_fit, rounds_swapped, rounds_next, rounds_end}
use Rattle.sorter.proofs.sort.Goals as goal

pub loop-end-init : goal.loop-end-init
loop-end-init c =
    rounds_start _ _ _ c.heap.ensures

pub swap-requires : goal.swap-requires
swap-requires c =
    let fits = rounds_fit _ _ _ _ c.loop-end.invariant in
    omega arith

pub sift-requires : goal.sift-requires
sift-requires c =
    let b = c in
    (omega arith, rounds_swapped _ _ _ _ b.loop-end.invariant (omega (arith, b.loop-end-test.true)) _ c.swap.ensures)

pub loop-end-preserved : goal.loop-end-preserved
loop-end-preserved c =
    let b = c in
    rounds_next _ _ _ _ b.loop-end.invariant (omega (arith, b.loop-end-test.true)) _ c.swap.ensures _ c.sift.ensures

pub shape_of-file : goal.shape_of-file
shape_of-file c =
    c.loop-end.invariant.permuted.size ∙ c.heap.ensures.permuted.size

pub returns : goal.returns
returns c =
    rounds_end _ _ _ _ c.loop-end.invariant _ c.heap.ensures.permuted (omega arith)
