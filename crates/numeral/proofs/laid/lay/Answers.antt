-- `numeral::laid::lay` meets its contract: the sign, the whole part, and the decimals after a point where there are any.
use native.Mathlib.Omega.{arith}
use lib.ListN.{length-set}
use Rattle.numeral.proofs.Parts.{length_shortest, length_pointed, no_decimals, some_decimals}
use Rattle.numeral.proofs.laid.lay.Goals as goal

pub lay_sign-p-requires : goal.lay_sign-p-requires
lay_sign-p-requires c =
    omega (arith, length_shortest c.args.v.negative c.args.v.millionths)

pub lay_natural-q-requires : goal.lay_natural-q-requires
lay_natural-q-requires c =
    let s = c in
    let p = c.lay_sign-p in
    omega (arith, length_shortest s.args.v.negative s.args.v.millionths, p.ensures.value, p.auto, s.requires)

pub returns-then-f-eq0 : goal.returns-then-f-eq0
returns-then-f-eq0 c =
    let both = let a = c.args in
    let p = c.lay_sign-p.ensures in
    let q = c.lay_natural-q.ensures in
    no_decimals a.out.now a.at a.v.negative a.v.millionths c.if-f-eq0.true p.value p.out_after q.value q.out_after in
    record { value = both.0; out_after = both.1 }

pub bounds-out-q : goal.bounds-out-q
bounds-out-q c =
    let s = c in
    let p = c.lay_sign-p in
    let q = c.lay_natural-q in
    omega (arith, length_pointed s.args.v.negative s.args.v.millionths c.if-f-eq0.false, p.ensures.value, p.auto, q.ensures.value, q.auto, s.requires)

pub overflow_add-q : goal.overflow_add-q
overflow_add-q c =
    let s = c in
    let p = c.lay_sign-p in
    let q = c.lay_natural-q in
    omega (arith, length_pointed s.args.v.negative s.args.v.millionths c.if-f-eq0.false, p.ensures.value, p.auto, q.ensures.value, q.auto, s.requires, s.well_formed)

pub lay_fraction-requires : goal.lay_fraction-requires
lay_fraction-requires c =
    let s = c in
    let p = c.lay_sign-p in
    let q = c.lay_natural-q in
    record { f_bound = omega arith; f_in_bounds = simp length-set (omega (arith, length_pointed s.args.v.negative s.args.v.millionths c.if-f-eq0.false, p.ensures.value, p.auto, q.ensures.value, q.auto, s.requires)) }

pub returns : goal.returns
returns c =
    let both = let a = c.args in
    let p = c.lay_sign-p.ensures in
    let q = c.lay_natural-q.ensures in
    let r = c.lay_fraction.ensures in
    some_decimals a.out.now a.at a.v.negative a.v.millionths c.if-f-eq0.false p.value p.out_after q.value q.out_after r.value r.out_after in
    record { value = both.0; out_after = both.1 }
