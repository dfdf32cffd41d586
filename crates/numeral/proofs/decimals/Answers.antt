-- `numeral::decimals` meets its contract. The loop's invariant: what is left, read on, comes to what the whole comes to, and
-- the decimals that still count do not take the number past `top`.
use Prim.Native.Nat.{ℕ, suc, ◌≤◌, ◌<◌, ◌-◌, ◌+◌, ◌*◌, ◌^◌}
use mathlib.Core.Path.{◌≡◌, sym, ◌∙◌}
use native.Mathlib.Omega.{arith}
use native.Mathlib.Numerals.{add-one}
use native.Mathlib.Nat.{pow-suc, mul-le-mul_right}
use lib.ListN.{length, get_or}
use lib.Seq.{drop-cons}
use Rattle.numeral.proofs.Digits.{digit_high}
use Rattle.numeral.proofs.decimals.Invariants.{top}
use Rattle.numeral.proofs.decimals.Goals as goal

-- of a digit d with k decimals after it: 9 is the greatest, and leaves room for them
fits : (x d k : ℕ) → x + 10 ^ suc k ≤ top → d ≤ 9 → x + d * 10 ^ k + 10 ^ k ≤ top
fits x d k h l = omega (arith, rw pow-suc at h, mul-le-mul_right (10 ^ k) l)

-- the decimal that is read leaves room for those after it
read_fits : (c : goal.After-power)
    → c.loop-i.x + c.digit_of.result * c.power.result
    + 10 ^ (c.loop-i.room - 1) ≤ top
read_fits c =
    let part = c.args.part.now in
    let l = c.loop-i in
    let b = get_or part l.i 0 in
    let k : l.room ≡ suc (l.room - 1) = omega arith in
    let d = sym c.is_ascii_digit.ensures.value ∙ c.if-not-is_ascii_digit.false in
    let n : b - 48 ≤ 9 = omega (arith, digit_high b d) in
    rw (c.digit_of.ensures, c.power.ensures) (fits l.x (b - 48) (l.room - 1) (rw k at l.invariant.1) n)

pub loop-i-preserved : goal.loop-i-preserved
loop-i-preserved c =
    let part = c.args.part.now in
    let l = c.loop-i in
    let h : l.i < length part = omega arith in
    let k : l.room ≡ suc (l.room - 1) = omega arith in
    let d = sym c.is_ascii_digit.ensures.value ∙ c.if-not-is_ascii_digit.false in (
      omega arith,
      read_fits c,
      rw (add-one l.i, c.digit_of.ensures, c.power.ensures)
          (simp d at (rw (k, drop-cons part l.i 0 h) at l.invariant.2)),
    )
