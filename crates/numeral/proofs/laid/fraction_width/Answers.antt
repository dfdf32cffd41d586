-- `numeral::laid::fraction_width` meets its contract. The loop's invariant: the decimals that are left, and those that are counted.
use Prim.Native.Nat.{ℕ, ◌-◌, ◌<◌, ◌^◌}
use mathlib.Core.Path.{◌≡◌, ap}
use mathlib.Core.List.{[]}
use native.Mathlib.Omega.{arith}
use native.Mathlib.Nat.{mod-lt}
use lib.ListN.{length}
use Rattle.numeral.specs.Shortest.{fraction}
use Rattle.numeral.proofs.Digits.{power_pos}
use Rattle.numeral.proofs.Parts.{fraction_none, turn}
use Rattle.numeral.proofs.Short.{fraction_length}
use Rattle.numeral.proofs.laid.fraction_width.Goals as goal

-- what has no rest has no decimals
ended : (k rest : ℕ) → rest ≡ 0 → fraction k rest ≡ []
ended k rest z = rw z (fraction_none k)

pub overflow_add-w : goal.overflow_add-w
overflow_add-w c =
    omega (arith, fraction_length 6 c.args.f)

pub loop-k-preserved : goal.loop-k-preserved
loop-k-preserved c =
    let l = c.loop-k in
    let e = c.power-rest.ensures in
    let t = turn l.k l.rest (omega arith) l.invariant.0 in
    (rw e (mod-lt l.rest (power_pos (l.k - 1))), rw e (omega (arith, ap length t.1)))

pub returns-then-rest-eq0 : goal.returns-then-rest-eq0
returns-then-rest-eq0 c =
    let l = c.loop-k in
    omega (arith, ap length (ended l.k l.rest c.if-rest-eq0.true))

pub returns : goal.returns
returns c =
    let l = c.loop-k in
    let k : l.k ≡ 0 = omega arith in
    let h : l.rest < 10 ^ 0 = rw k at l.invariant.0 in
    omega (arith, ap length (ended l.k l.rest (omega arith)))
