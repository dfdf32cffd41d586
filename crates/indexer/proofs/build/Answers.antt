-- `indexer::build` meets its contract: a refusal of the records is its answer, and all else is that of an accepted file.
use Rattle.std.proofs.lemmas.Result.{err_from_is_err_and}
use Rattle.indexer.proofs.Answering.{accepted_by, build_err}
use Rattle.indexer.proofs.Judged.{judged_ok}
use Rattle.indexer.proofs.build.Goals as goal

pub returns-in_err-check : goal.returns-in_err-check
returns-in_err-check c =
    let a = c.args in
    let r = build_err a.text.now a.records.now _ c.in_err-check.ensures a.index.now in
    let p = err_from_is_err_and c.from_residual.result c.from_residual.ensures.1 in
    record { value = rw (p.1, p.2) r.0; index_after = r.1 }

pub build_accepted-requires : goal.build_accepted-requires
build_accepted-requires c = accepted_by c.args.text.now c.args.records.now (judged_ok _ c.in_ok-check.ensures)
