-- `sorter::sift` meets its contract: the entry sinks by the laws of Sinking, and the measure is how far it has to go.
use native.Mathlib.Omega.{arith}
use Rattle.ordered.proofs.Heap.{child_behind}
use Rattle.sorter.proofs.Sinking.{sinks_start, sinks_fit, sinks_none, sinks_next}
use Rattle.sorter.proofs.Precedence.{first_read}
use Rattle.sorter.proofs.sift.Goals as goal

pub loop-sinking-init : goal.loop-sinking-init
loop-sinking-init c =
    sinks_start _ _ _ _ c.requires.0

pub rising_child-c-requires : goal.rising_child-c-requires
rising_child-c-requires c =
    let b = c in
    (b.loop-sinking.invariant.below, sinks_fit _ _ _ _ _ _ b.loop-sinking.invariant b.requires.1)

pub swap-requires : goal.swap-requires
swap-requires c =
    let t = c in
    let b = t in
    let r = t.rising_child-c.ensures in
    let g = r.found (omega (arith, r.within, t.if-c-n.false)) in
    let fits = sinks_fit _ _ _ _ _ _ b.loop-sinking.invariant b.requires.1 in
    (child_behind _ _ g.child, omega (arith, g.within))

pub loop-sinking-smaller : goal.loop-sinking-smaller
loop-sinking-smaller c =
    let t = c in
    let b = t in
    let r = t.rising_child-c.ensures in
    let g = r.found (omega (arith, r.within, t.if-c-n.false)) in
    omega (arith, b.loop-sinking.invariant.below, child_behind _ _ g.child)

pub loop-sinking-preserved : goal.loop-sinking-preserved
loop-sinking-preserved c =
    let t = c in
    let b = t in
    let r = t.rising_child-c.ensures in
    let g = r.found (omega (arith, r.within, t.if-c-n.false)) in
    let h = b.loop-sinking.invariant in
    let fits = sinks_fit _ _ _ _ _ _ h b.requires.1 in
    sinks_next _ _ _ _ _ _ h _ g fits _ c.swap.ensures (first_read _ _ b.read-sinking.ensures.of (r.after g.within))

pub returns : goal.returns
returns c =
    let b = c in
    sinks_none _ _ _ _ _ _ b.loop-sinking.invariant
    (λ d k m. first_read _ _ b.read-sinking.ensures.of (c.rising_child-c.ensures.none c.if-c-n.true d k m))
