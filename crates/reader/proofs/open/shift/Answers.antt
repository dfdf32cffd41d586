-- `reader::open::shift` meets its contract, by the number that says what the record does.
use native.Mathlib.Omega.{arith}
use Rattle.rows.specs.Packed.{move_of}
use Rattle.reader.proofs.Moving.{is_version, stays, pushes, shifted}
use Rattle.reader.proofs.Stack.{framed}
use Rattle.reader.proofs.open.shift.Goals as goal

pub returns-then-how-eq-VERSION : goal.returns-then-how-eq-VERSION
returns-then-how-eq-VERSION c s i =
    let a = c.args in rw (is_version a.opens c.if-how-eq-VERSION.true, c.x.ensures, c.counting-f.ensures s, c.kind.ensures)

pub returns-then-how : goal.returns-then-how
returns-then-how c s i =
    let a = c.args in rw (stays a.opens c.if-how.true c.if-how-eq-VERSION.false, c.counting-f.ensures s, c.kind.ensures)

pub offset_bounds-outer-o : goal.offset_bounds-outer-o
offset_bounds-outer-o c =
    omega (arith, c.requires (pushes c.args.opens c.if-how.false))

pub bounds-outer-o : goal.bounds-outer-o
bounds-outer-o c =
    omega (arith, c.requires (pushes c.args.opens c.if-how.false))

pub overflow_add-result : goal.overflow_add-result
overflow_add-result c =
    omega (arith, c.requires (pushes c.args.opens c.if-how.false))

pub returns : goal.returns
returns c s i =
    let a = c.args in
    let m = a.opens in
    rw (framed s a.o.depth c.counting-f.result a.outer.now (omega (arith, c.requires (pushes m c.if-how.false))), c.counting-f.ensures s, c.kind.ensures)
    (shifted (move_of m) (pushes m c.if-how.false) _ _ _ _ _ _ _ _ (c.opened.ensures s i))
