-- `put` meets its contract: each turn puts the next byte, until there is none or no room.
use native.Mathlib.Omega.{arith}
use Rattle.std.proofs.lemmas.List.{drop_all}
use Rattle.vectors.proofs.Laws.{step}
use Rattle.vectors.proofs.Putting.{started, further, done}
use Rattle.vectors.proofs.put.Goals as goal

pub loop-n-init : goal.loop-n-init
loop-n-init c =
    started _ _ _

pub loop-n-preserved : goal.loop-n-preserved
loop-n-preserved c =
    let l = c.loop-n in
    further l.invariant _ _ (step c.args.bytes.now l.n (omega (arith, c.min-count.ensures)))

pub returns-clause-out_after : goal.returns-clause-out_after
returns-clause-out_after c =
    let l = c.loop-n in
    done l.invariant (λ room. drop_all l.n c.args.bytes.now (omega (arith, room, c.min-count.ensures, c.loop-n-test.false)))
