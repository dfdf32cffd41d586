-- `parser::draft::to_string` meets its contract: the token has two bytes more than the name, which starts one byte after it.
use Prim.Native.Nat.{◌+◌, ◌-◌, ◌<◌}
use native.Mathlib.Omega.{arith}
use borrow.Author.Tests.{eq-eqb, ne_eqb}
use lib.ListN.{length}
use Rattle.grammar.specs.Engine.{item}
use Rattle.parser.proofs.Ahead.{span_within, inside_at}
use Rattle.parser.proofs.Exits.{handed_on}
use Rattle.parser.proofs.draft.to_string.Goals as goal

pub returns-in_err-next : goal.returns-in_err-next
unfolding item
returns-in_err-next c f b o h =
    rw (handed_on _ _ c.from_residual.ensures.1, ← (c.in_err-next.ensures _ o h))

pub returns-then-txt-n : goal.returns-then-txt-n
unfolding item
returns-then-txt-n c f b o h =
    rw (c.complain.ensures, ← (c.in_ok-next.ensures _ o h), ne_eqb _ _ (rw c.txt.ensures at c.if-txt-n.true))

pub overflow_add-result : goal.overflow_add-result
overflow_add-result c =
    let a = c.args in
    let l : a.t.token.start < length a.lent.now.now = span_within a.lent.now.now a.t.token.start (a.t.token.stop - a.t.token.start) (a.n + 2) (rw c.txt.ensures at c.if-txt-n.false) (omega arith) in
    omega arith

pub returns : goal.returns
unfolding item
returns c f b o h =
    let p = c.args in
    let e = rw c.txt.ensures at c.if-txt-n.false in
    rw (← (c.in_ok-next.ensures _ o h), eq-eqb _ _ e, inside_at p.lent.now.now p.t.token.start (p.t.token.stop - p.t.token.start) p.n e)
