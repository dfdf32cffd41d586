-- `hex::bytes` meets its contract: each turn puts the byte of the next two digits, until there are none or no room.
use native.Mathlib.Omega.{arith}
use Rattle.vectors.proofs.Laws.{pairs_more, pairs_end}
use Rattle.vectors.proofs.Putting.{begun, more, over}
use Rattle.vectors.proofs.hex.bytes.Goals as goal

pub loop-n-init : goal.loop-n-init
loop-n-init c =
    begun _ _

pub loop-n-preserved : goal.loop-n-preserved
loop-n-preserved c =
    let l = c.loop-n in
    more l.invariant c.pair.result _ (omega (arith, c.min-count.ensures, l.auto.out)) (rw c.pair.ensures (pairs_more c.args.digits.now l.n (omega (arith, c.min-count.ensures))))

pub returns : goal.returns
returns c =
    let l = c.loop-n in
    let both = over l.invariant (λ room. pairs_end c.args.digits.now l.n (omega (arith, c.min-count.ensures, l.auto.out, c.loop-n-test.false))) in
    record { value = omega (arith, both.0, l.auto.n-end, c.loop-n-test.false); out_after = both.1 }
