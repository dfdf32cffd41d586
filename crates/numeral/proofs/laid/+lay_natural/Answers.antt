-- `numeral::laid::lay_natural` meets its contract: the digits before the last, and the last. The measure is the number.
use Prim.Native.Nat.{◌<◌, ◌^◌}
use mathlib.Core.Path.{ap}
use native.Mathlib.Omega.{arith}
use lib.ListN.{length}
use Rattle.numeral.proofs.Parts.{sets_append, whole_small, whole_large, whole_large_length}
use Rattle.numeral.proofs.laid.+lay_natural.Goals as goal

pub bounds-out-at : goal.bounds-out-at
bounds-out-at t c =
    omega (arith, ap length (whole_small c.args.n c.if-n-lt10.true))

pub returns-then-n-lt10 : goal.returns-then-n-lt10
returns-then-n-lt10 t c =
    let e = whole_small c.args.n c.if-n-lt10.true in
    record { value = rw e; out_after = rw (e, c.glyph.ensures) }

pub lay_natural-p-requires : goal.lay_natural-p-requires
lay_natural-p-requires t c =
    (omega arith, omega (arith, whole_large_length c.args.n c.if-n-lt10.false (omega arith)))

pub bounds-out-p : goal.bounds-out-p
bounds-out-p t c =
    omega (arith, whole_large_length c.args.n c.if-n-lt10.false (omega arith), c.lay_natural-p.auto, c.requires)

pub overflow_add-result-2 : goal.overflow_add-result-2
overflow_add-result-2 t c =
    omega (arith, whole_large_length c.args.n c.if-n-lt10.false (omega arith), c.lay_natural-p.auto, c.requires, c.well_formed)

pub returns : goal.returns
returns t c =
    let n = c.args.n in
    let h = c.if-n-lt10.false in
    let l : n < 2 ^ 64 = omega arith in
    let e = c.lay_natural-p.ensures in
    record { value = omega (arith, whole_large_length n h l); out_after = rw (whole_large n h l, sets_append, c.glyph-2.ensures, e.value, e.out_after) }
