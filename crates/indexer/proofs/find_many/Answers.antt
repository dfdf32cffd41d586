-- `indexer::find_many` meets its contract: 13 for the queries comes between those of checking the index, 11 last, and then nothing is refused any more.
use Rattle.std.proofs.lemmas.Result.{err_from_is_err_and}
use Rattle.index.proofs.Looked.{consulted_held}
use Rattle.index.specs.Queries.{room}
use Rattle.indexer.proofs.Asking.{many_refused, many_no_room, many_answered}
use Rattle.indexer.proofs.Between.{asked_err, asked_ok}
use Rattle.indexer.proofs.find_many.Goals as goal

pub returns-in_err-in_rows : goal.returns-in_err-in_rows
returns-in_err-in_rows c =
    let a = c.args in
    let k = c.check in
    let (n, q) = asked_err a.text.now a.records.now a.index.now a.queries.now (room a.answers.now) k.result k.ensures _ c.in_err-in_rows.ensures in
    let z = many_refused a.text.now a.records.now a.index.now a.names.now a.queries.now a.answers.now _ n q in
    let p = err_from_is_err_and c.from_residual.result c.from_residual.ensures.1 in
    record { value = rw (p.1, p.2) z.0; answers_after = z.1 }

pub returns-then-answers-needed : goal.returns-then-answers-needed
returns-then-answers-needed c =
    let a = c.args in
    let k = c.check in
    let (f, l) = asked_ok a.text.now a.records.now a.index.now a.queries.now (room a.answers.now) k.result k.ensures c.in_ok-in_rows.ensures in
    let z = many_no_room a.text.now a.records.now a.index.now a.names.now a.queries.now a.answers.now f l c.if-answers-needed.true in
    record { value = rw c.record_room.ensures z.0; answers_after = z.1 }

pub answer_each-requires : goal.answer_each-requires
answer_each-requires c =
    let a = c.args in
    let k = c.check in
    consulted_held a.text.now a.records.now a.index.now
    (asked_ok a.text.now a.records.now a.index.now a.queries.now (room a.answers.now) k.result k.ensures c.in_ok-in_rows.ensures).0

pub returns : goal.returns
returns c =
    let a = c.args in
    let k = c.check in
    let (f, l) = asked_ok a.text.now a.records.now a.index.now a.queries.now (room a.answers.now) k.result k.ensures c.in_ok-in_rows.ensures in
    let z = many_answered a.text.now a.records.now a.index.now a.names.now a.queries.now a.answers.now f l c.if-answers-needed.false _ c.answer_each.ensures in
    record { value = z.0; answers_after = z.1 }
