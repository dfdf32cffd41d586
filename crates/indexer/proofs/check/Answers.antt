-- `indexer::check` meets its contract: 13 for the index comes between those of checking the records, and behind them the index is looked at.
use Rattle.std.proofs.lemmas.Result.{err_from_is_err_and}
use Rattle.indexer.proofs.Answering.{accepted_by}
use Rattle.indexer.proofs.Between.{check_err, check_ok}
use Rattle.indexer.proofs.check.Goals as goal

pub returns-in_err-in_rows : goal.returns-in_err-in_rows
returns-in_err-in_rows c =
    let a = c.args in
    let v = c.check in
    let p = err_from_is_err_and c.from_residual.result c.from_residual.ensures.1 in
    rw (p.1, p.2)
    (check_err a.text.now a.records.now a.index.now v.result v.ensures _ c.in_err-in_rows.ensures)

pub check_accepted-requires : goal.check_accepted-requires
check_accepted-requires c =
    let a = c.args in
    let v = c.check in
    let p = check_ok a.text.now a.records.now a.index.now v.result v.ensures c.in_ok-in_rows.ensures in
    (accepted_by a.text.now a.records.now p.0, p.1)
