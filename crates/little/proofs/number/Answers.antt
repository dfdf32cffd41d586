-- `little::number` meets its contract: the sum is the number of the bytes passed, the highest first.
use Prim.Native.Nat.{◌+◌, ◌-◌, ◌≤◌, ◌<◌, min}
use mathlib.Core.Path.{sym}
use native.Mathlib.Nat.{one-le-pow}
use native.Mathlib.Omega.{arith}
use Rattle.little.proofs.Steps.{nothing, earlier, wider, seven}
use Rattle.little.proofs.number.Goals as goal
use Rattle.little.proofs.number.Goals.{In-loop-i}

-- before a turn the sum has at most seven bytes
small : (c : In-loop-i) → c.loop-i.sum < 72057594037927936
small c =
    let l = c.loop-i in
    seven (min c.args.n 8) l.i l.sum (omega arith) (omega arith) (omega arith) l.invariant.1

pub loop-i-init : goal.loop-i-init
loop-i-init c =
    let a = c.args in
    (sym (nothing a.bytes.now (a.place + c.min-i.result) (min a.n 8 - c.min-i.result) (λ h. omega arith)), one-le-pow (min a.n 8 - c.min-i.result) 256 (omega arith))

pub overflow_mul-sum : goal.overflow_mul-sum
overflow_mul-sum c =
    omega (arith, small (goal.at.overflow_mul-sum c).In-loop-i)

pub overflow_add-sum : goal.overflow_add-sum
overflow_add-sum c =
    omega (arith, small (goal.at.overflow_add-sum c).In-loop-i)

pub loop-i-preserved : goal.loop-i-preserved
loop-i-preserved c =
    let a = c.args in
    let l = c.loop-i in
    let p : 0 < l.i = omega arith in
    let q : l.i ≤ min a.n 8 = omega arith in
    (omega (arith, earlier (min a.n 8) l.i a.place a.bytes.now p q), wider (min a.n 8) l.i c.from.result l.sum p q (omega arith) l.invariant.1)
