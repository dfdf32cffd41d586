-- `lines::form::fitting` meets its contract: the test is that of the row's act.
use native.Mathlib.Omega.{arith}
use Rattle.lines.proofs.Fitted.{fits, unfit}
use Rattle.lines.proofs.form.fitting.Goals as goal

pub returns-then-does-kind : goal.returns-then-does-kind
returns-then-does-kind c =
    let a = c.args in fits a.word a.kind a.code a.row.head a.row.items (omega arith) c.if-does-kind.true

pub returns-else-does-kind : goal.returns-else-does-kind
returns-else-does-kind c =
    let a = c.args in unfit a.word a.kind a.code a.row.head a.row.items (omega arith) c.if-does-kind.false
