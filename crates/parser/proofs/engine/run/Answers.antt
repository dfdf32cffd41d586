-- `parser::engine::run` meets its contract: the items' answer, and what the row makes of it.
use native.Mathlib.Omega.{arith}
use Rattle.parser.proofs.Exits.{handed_on}
use Rattle.parser.proofs.Shown.{run_refused, run_ends, run_gives}
use Rattle.parser.proofs.engine.run.Goals as goal

pub returns-in_err-d : goal.returns-in_err-d
returns-in_err-d c =
    let g = c.args in
    rw (handed_on _ _ c.from_residual.ensures.1)
    (run_refused g.lent.now.now g.f g.held g.first g.row.head g.row.items _ (omega arith) c.kind_of-kind.ensures _ c.in_err-d.ensures)

pub returns-then-act-eq-CLOSE : goal.returns-then-act-eq-CLOSE
returns-then-act-eq-CLOSE c =
    let g = c.args in
    run_ends g.lent.now.now g.f g.held g.first g.row.head g.row.items _ (omega arith) c.kind_of-kind.ensures c.in_ok-d.d c.in_ok-d.next c.in_ok-d.ensures c.if-act-eq-CLOSE.true

pub returns : goal.returns
returns c =
    let g = c.args in
    run_gives g.lent.now.now g.f g.held g.first g.row.head g.row.items _ (omega arith) c.kind_of-kind.ensures c.in_ok-d.d c.in_ok-d.next _ c.in_ok-d.ensures c.if-act-eq-CLOSE.false c.record_of.ensures
