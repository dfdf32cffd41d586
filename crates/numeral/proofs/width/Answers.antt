-- `numeral::width` meets its contract: the lengths of the parts, which are short, add up.
use native.Mathlib.Omega.{arith}
use Rattle.numeral.proofs.Parts.{length_plain, length_pointed}
use Rattle.numeral.proofs.Short.{short_any}
use Rattle.numeral.proofs.width.Goals as goal

pub overflow_add-result : goal.overflow_add-result
overflow_add-result c =
    let a = c.args in
    omega (arith, length_plain a.v.negative a.v.millionths c.if-f-eq0.true, short_any a.v.negative a.v.millionths (omega arith))

pub returns-then-f-eq0 : goal.returns-then-f-eq0
returns-then-f-eq0 c =
    let a = c.args in
    omega (arith, length_plain a.v.negative a.v.millionths c.if-f-eq0.true)

pub overflow_add-result-2 : goal.overflow_add-result-2
overflow_add-result-2 c =
    let a = c.args in
    omega (arith, length_pointed a.v.negative a.v.millionths c.if-f-eq0.false, short_any a.v.negative a.v.millionths (omega arith))

pub overflow_add-result-3 : goal.overflow_add-result-3
overflow_add-result-3 c =
    let a = c.args in
    omega (arith, length_pointed a.v.negative a.v.millionths c.if-f-eq0.false, short_any a.v.negative a.v.millionths (omega arith))

pub overflow_add-result-4 : goal.overflow_add-result-4
overflow_add-result-4 c =
    let a = c.args in
    omega (arith, length_pointed a.v.negative a.v.millionths c.if-f-eq0.false, short_any a.v.negative a.v.millionths (omega arith))

pub returns : goal.returns
returns c =
    let a = c.args in
    omega (arith, length_pointed a.v.negative a.v.millionths c.if-f-eq0.false)
