-- `write` meets its contract: a text that is refused at its beginning, or the answer from its first state on.
use Rattle.parser.proofs.Exits.{handed_on}
use Rattle.writer.proofs.Answering.{begun_refused}
use Rattle.writer.proofs.write.Goals as goal

pub returns-in_err-start-clause-value : goal.returns-in_err-start-clause-value
returns-in_err-start-clause-value c =
    let a = c.args in
    rw (handed_on _ _ c.from_residual.ensures.1) (begun_refused a.text.now a.file.now _ c.in_err-start.ensures a.out.now).0

pub returns-in_err-start-clause-out_after : goal.returns-in_err-start-clause-out_after
returns-in_err-start-clause-out_after c =
    let a = c.args in
    (begun_refused a.text.now a.file.now _ c.in_err-start.ensures a.out.now).1
