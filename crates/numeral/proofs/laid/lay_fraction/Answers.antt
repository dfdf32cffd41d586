-- `numeral::laid::lay_fraction` meets its contract. The loop's invariant: what is left, written on, comes to what the whole comes to.
use Prim.Native.Nat.{ℕ, ◌≤◌, ◌<◌, ◌+◌, ◌-◌, ◌/◌, ◌%◌, ◌^◌}
use mathlib.Core.Path.{◌≡◌, ap}
use mathlib.Core.List.{[], ◌∷◌}
use native.Mathlib.Omega.{arith}
use native.Mathlib.Nat.{mod-lt}
use native.Mathlib.Numerals.{add-one}
use lib.ListN.{length, length-set}
use Rattle.numeral.specs.Shortest.{fraction}
use Rattle.numeral.proofs.Digits.{power_pos}
use Rattle.numeral.proofs.Parts.{fraction_none, turn}
use Rattle.numeral.proofs.laid.lay_fraction.Goals as goal
use Rattle.numeral.proofs.laid.lay_fraction.Goals.{In-loop-k}

turn_of : (c : In-loop-k) → 0 < c.loop-k.rest → (1 ≤ c.loop-k.k)
    × (fraction c.loop-k.k c.loop-k.rest
    ≡ (48 + c.loop-k.rest / 10 ^ (c.loop-k.k - 1)) ∷ fraction (c.loop-k.k - 1) (c.loop-k.rest % 10 ^ (c.loop-k.k - 1)))
    × (c.loop-k.rest / 10 ^ (c.loop-k.k - 1) < 10)
turn_of c h = turn c.loop-k.k c.loop-k.rest h c.loop-k.invariant.0

-- what has no rest has no decimals
ended : (k rest : ℕ) → rest ≡ 0 → fraction k rest ≡ []
ended k rest z = rw z (fraction_none k)

pub bounds-out-p : goal.bounds-out-p
bounds-out-p c =
    omega (arith, ap length (turn_of (goal.at.bounds-out-p c).In-loop-k (omega arith)).1)

pub loop-k-preserved : goal.loop-k-preserved
loop-k-preserved c =
    let l = c.loop-k in
    let e = c.power-unit.ensures in
    let t = turn_of (goal.at.loop-k-preserved c).In-loop-k (omega arith) in (
      rw e (mod-lt l.rest (power_pos (l.k - 1))),
      simp length-set l.invariant.1,
      rw e (omega (arith, ap length t.1)),
      rw (add-one, c.glyph.ensures, e) (rw t.1 at l.invariant.3),
    )

pub returns-then-rest-eq0 : goal.returns-then-rest-eq0
returns-then-rest-eq0 c =
    let l = c.loop-k in
    let n = ended l.k l.rest c.if-rest-eq0.true in
    record { value = omega (arith, ap length n); out_after = rw n at l.invariant.3 }

pub returns : goal.returns
returns c =
    let l = c.loop-k in
    let k : l.k ≡ 0 = omega arith in
    let h : l.rest < 10 ^ 0 = rw k at l.invariant.0 in
    let n = ended l.k l.rest (omega arith) in
    record { value = omega (arith, ap length n); out_after = rw n at l.invariant.3 }
