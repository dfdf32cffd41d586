-- `verdict_of` meets its contract: every record of the file has its `at` below the windows' end.
use native.Mathlib.Omega.{arith}
use Rattle.checker.proofs.Covering.{is_wrong, is_lacking, is_done}
use Rattle.checker.proofs.windows.verdict_of.Goals as goal

pub returns-then-seen-file : goal.returns-then-seen-file
returns-then-seen-file c rs cov =
    let a = c.args in
    rw (is_wrong rs a.file.now (λ i. omega (arith, c.type_inv.file i)) a.seen c.requires cov c.if-seen-file.true, c.wrong_record.ensures)

pub returns-in-Some : goal.returns-in-Some
returns-in-Some c rs cov =
    let a = c.args in
    rw (is_lacking rs a.file.now (λ i. omega (arith, c.type_inv.file i)) a.seen c.requires cov (omega (arith, c.if-seen-file.false)) _ c.in-Some.is, c.lacking.ensures)

pub returns-in-None : goal.returns-in-None
returns-in-None c rs cov =
    let a = c.args in
    rw (is_done rs a.file.now (λ i. omega (arith, c.type_inv.file i)) a.seen c.requires cov (omega (arith, c.if-seen-file.false)) c.in-None.is)
