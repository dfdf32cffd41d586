-- `plain::bytes` meets its contract: each turn puts the first byte that is written from here on, until there is none or no room.
use Rattle.std.proofs.Common.{rules, ◌≡◌, []}
use native.Mathlib.Omega.{arith}
use Rattle.vectors.proofs.Laws.{meant_none}
use Rattle.vectors.proofs.Putting.{begun, more, all, full}
use Rattle.vectors.proofs.plain.bytes.Goals as goal

pub loop-n-init : goal.loop-n-init
loop-n-init c =
    begun _ _

pub loop-n-preserved : goal.loop-n-preserved
loop-n-preserved c =
    more c.loop-n.invariant _ _ (omega (arith, c.loop-n-test.true, c.loop-n.auto.out)) c.in-Some.ensures.meant

pub returns-in_default-clause-value : goal.returns-in_default-clause-value
returns-in_default-clause-value c =
    let none : c.loop-n.rest.now ≡ [] = search rules in
    (all c.loop-n.invariant (rw none meant_none)).0

pub returns-in_default-clause-out_after : goal.returns-in_default-clause-out_after
returns-in_default-clause-out_after c =
    let none : c.loop-n.rest.now ≡ [] = search rules in
    (all c.loop-n.invariant (rw none meant_none)).1

pub returns-clause-out_after : goal.returns-clause-out_after
returns-clause-out_after c =
    (full c.loop-n.invariant (omega (arith, c.loop-n-test.false, c.loop-n.auto.out))).1
