-- `lef_read` meets its contract: what the call hands out comes back.
use Rattle.lef.proofs.Numbered.{read_back}
use Rattle.lef.proofs.lef_read.Goals as goal

pub returns-clause-line_after : goal.returns-clause-line_after
returns-clause-line_after c =
    let a = c.args in
    rw (c.read.ensures.value, read_back a.text.now _) at c.tell.ensures.line_after
