-- `entry::order::common` meets its contract: the names go together as far as the loop came.
use borrow.Author.Count.{below_none, below_more}
use native.Mathlib.Omega.{arith}
use Rattle.entry.proofs.Common.{meets}
use Rattle.entry.proofs.order.common.Goals as goal

pub loop-i-init : goal.loop-i-init
loop-i-init c = below_none _

pub returns-then-a-i : goal.returns-then-a-i
returns-then-a-i c =
    let a = c.args in
    let l = c.loop-i in
    meets a.a.now a.b.now l.i (omega arith) (omega arith) l.invariant (λ p q e. c.if-a-i.true e)

pub loop-i-preserved : goal.loop-i-preserved
loop-i-preserved c =
    below_more _ _ c.loop-i.invariant c.if-a-i.false

pub returns : goal.returns
returns c =
    let a = c.args in
    let l = c.loop-i in
    meets a.a.now a.b.now _ (omega arith) (omega arith) (λ k h. l.invariant k (omega arith)) (λ p q e. omega arith)
