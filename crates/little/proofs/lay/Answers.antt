-- `little::lay` meets its contract: what is laid so far, and the rest of the number laid on from there, come to the whole; past the end
-- nothing is laid.
use Prim.Native.Nat.{suc, ◌+◌, ◌-◌}
use mathlib.Core.Path.{◌≡◌, sym, ◌∙◌}
use native.Mathlib.Omega.{arith}
use Rattle.little.proofs.Steps.{next, ended}
use Rattle.little.proofs.lay.Goals as goal

pub loop-i-preserved : goal.loop-i-preserved
loop-i-preserved c =
    let a = c.args in
    let l = c.loop-i in
    let further : a.place + (l.i + 1) ≡ suc (a.place + l.i) = omega arith in
    rw further (rw (next a.n l.i l.rest (omega arith)) at l.invariant)

pub returns : goal.returns
returns c =
    let a = c.args in
    let l = c.loop-i in
    sym (ended l.bytes (a.place + l.i) (a.n - l.i) l.rest (λ h. omega arith)) ∙ l.invariant
