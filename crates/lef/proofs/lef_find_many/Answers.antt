-- `lef_find_many` meets its contract: what the call hands out comes back.
use Rattle.lef.proofs.Numbered.{ask_back}
use Rattle.lef.proofs.lef_find_many.Goals as goal

pub returns-clause-line_after : goal.returns-clause-line_after
returns-clause-line_after c =
    let a = c.args in
    rw (c.find_many-answer.ensures.value, ask_back a.text.now a.records.now a.index.now a.queries.now _) at c.tell.ensures.line_after
