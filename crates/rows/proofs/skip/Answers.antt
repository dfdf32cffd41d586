-- `rows::skip` meets its contract: what is left to drop of what is left is what was to be dropped.
use Prim.Native.Nat.{◌+◌, ◌-◌}
use mathlib.Core.Path.{◌≡◌, sym, ◌∙◌}
use native.Mathlib.Omega.{arith}
use Rattle.rows.proofs.Unpack.{drop_one}
use Rattle.rows.proofs.skip.Goals as goal

pub loop-k-preserved : goal.loop-k-preserved
loop-k-preserved c =
    let l = c.loop-k in
    let n = c.args.n in
    let e : n - (l._k + 1) ≡ n - l._k - 1 = omega arith in
    (omega arith, rw e (sym (drop_one (n - l._k) l.r (omega arith) (λ z. omega arith)) ∙ l.invariant.1))

pub returns : goal.returns
returns c =
    let l = c.loop-k in
    let z : c.args.n - l._k ≡ 0 = omega arith in
    record { of = rw z at l.invariant.1; less = l.invariant.0 }
