-- `indexer::find` meets its contract: an index that is accepted rises, and what is sought in it is that of the reading.
use Rattle.std.proofs.lemmas.Result.{err_from_is_err_and}
use Rattle.indexer.proofs.Finding.{find_err, index_climbs, find_found}
use Rattle.indexer.proofs.find.Goals as goal

pub returns-in_err-check : goal.returns-in_err-check
returns-in_err-check c =
    let a = c.args in
    let p = err_from_is_err_and c.from_residual.result c.from_residual.ensures.1 in
    rw (p.1, p.2) (find_err a.text.now a.records.now a.index.now a.owner a.name.now _ c.in_err-check.ensures)

pub invariant_of-seek-clause-rises : goal.invariant_of-seek-clause-rises
invariant_of-seek-clause-rises c =
    let a = c.args in
    index_climbs a.text.now a.records.now a.index.now a.owner a.name.now c.in_ok-check.ensures

pub returns : goal.returns
returns c =
    let a = c.args in
    find_found a.text.now a.records.now a.index.now a.owner a.name.now c.in_ok-check.ensures c.seek.result c.seek.ensures
