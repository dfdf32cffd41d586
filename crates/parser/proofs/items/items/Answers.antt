-- `parser::items::items` meets its contract: what is left of the number is what is left of the items, and they go on as they would have
-- from the empty draft.
use Prim.Native.Nat.{◌%◌}
use mathlib.Core.Path.{sym, ◌∙◌}
use native.Mathlib.Omega.{arith}
use Rattle.rows.proofs.Ranges.{looked_at, taken_at}
use Rattle.parser.proofs.Alike.{from_empty}
use Rattle.parser.proofs.Exits.{handed_on}
use Rattle.parser.proofs.Taking.{takes_at}
use Rattle.parser.proofs.Turning.{stop, go, untaken, onward, end}
use Rattle.parser.proofs.items.items.Goals as goal

pub loop-s-init : goal.loop-s-init
loop-s-init c =
    (omega arith, λ b k. from_empty c.args.lent.now.now 0 _ _ b _)

pub returns-in_err-d : goal.returns-in_err-d
returns-in_err-d c b k =
    let l = c.loop-s in
    let i = looked_at (l.s % 256) c.if-it.true in
    rw (handed_on _ _ c.from_residual.ensures.1)
    (stop _ _ b l.d l.t l.s (omega arith) c.loop-s-test.true _ (c.in_err-d.ensures b k i.0 i.1)
    ∙ l.invariant.1 b k)

pub loop-s-preserved-then-it : goal.loop-s-preserved-then-it
loop-s-preserved-then-it c = (
  omega arith,
  λ b k.
      let l = c.loop-s in
      let i = looked_at (l.s % 256) c.if-it.true in
      go _ _ b l.d l.t l.s (omega arith) c.loop-s-test.true _ _ c.skip-s.result (c.in_ok-d.ensures b k i.0 i.1) (c.passed.ensures _) c.skip-s.ensures.of
      ∙ l.invariant.1 b k,
)

pub returns-in_err-next : goal.returns-in_err-next
returns-in_err-next c b k =
    let l = c.loop-s in
    let i = taken_at (l.s % 256) c.if-it.false in
    rw (handed_on _ _ c.from_residual-in_err-next.ensures.1)
    (untaken _ _ b l.d l.t l.s (omega arith) c.loop-s-test.true (takes_at (l.s % 256) i) _ c.in_err-next.ensures
    ∙ l.invariant.1 b k)

pub returns-in_err-d-2 : goal.returns-in_err-d-2
returns-in_err-d-2 c b k =
    let l = c.loop-s in
    let i = taken_at (l.s % 256) c.if-it.false in
    rw (handed_on _ _ c.from_residual-in_err-d-2.ensures.1)
    (stop _ _ b l.d l.t l.s (omega arith) c.loop-s-test.true _ (c.in_err-d-2.ensures b _ (sym c.in_ok-next.ensures) k i)
    ∙ l.invariant.1 b k)

pub loop-s-preserved : goal.loop-s-preserved
loop-s-preserved c = (
  omega arith,
  λ b k.
      let l = c.loop-s in
      let i = taken_at (l.s % 256) c.if-it.false in
      onward _ _ b l.d l.t l.s (omega arith) c.loop-s-test.true (takes_at (l.s % 256) i) _ _ _ (sym c.in_ok-next.ensures) (c.in_ok-d-2.ensures b _ (sym c.in_ok-next.ensures) k i)
      ∙ l.invariant.1 b k,
)

pub returns : goal.returns
returns c b k =
    let l = c.loop-s in end _ _ b l.d l.t c.loop-s-test.false ∙ l.invariant.1 b k
