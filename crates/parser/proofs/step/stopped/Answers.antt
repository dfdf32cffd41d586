-- `parser::step::stopped` meets its contract: back, or the refusal of the act, which is 0 for an act below those.
use Prim.Native.Nat.{◌-◌}
use mathlib.Core.Path.{◌≡◌}
use native.Mathlib.Omega.{arith}
use borrow.Author.Tests.{eq-eqb, ne_eqb}
use Rattle.parser.proofs.step.stopped.Goals as goal

pub returns-then-act-eq-BACK : goal.returns-then-act-eq-BACK
returns-then-act-eq-BACK c =
    record { of = (λ s f held. rw (eq-eqb _ 66 c.if-act-eq-BACK.true)); low = tt }

pub returns-then-act-lt-REFUSE : goal.returns-then-act-lt-REFUSE
returns-then-act-lt-REFUSE c =
    let act = c.args.act in
    let z : act - 80 ≡ 0 = omega arith in
    record { of = (λ s f held. rw (c.complain.ensures, ne_eqb act 66 c.if-act-eq-BACK.false, z)); low = tt }

pub returns : goal.returns
returns c =
    let act = c.args.act in
    record { of = (λ s f held. rw (c.complain-2.ensures, ne_eqb act 66 c.if-act-eq-BACK.false)); low = tt }
