-- `lef_check` meets its contract: what the call hands out comes back.
use Rattle.lef.proofs.Numbered.{check_back}
use Rattle.lef.proofs.lef_check.Goals as goal

pub returns-clause-place_after : goal.returns-clause-place_after
returns-clause-place_after c =
    let a = c.args in
    rw (c.nothing_written.ensures, c.check.ensures, check_back a.text.now a.records.now) at c.tell.ensures.place_after

pub returns-clause-line_after : goal.returns-clause-line_after
returns-clause-line_after c =
    let a = c.args in
    rw (c.nothing_written.ensures, c.check.ensures, check_back a.text.now a.records.now) at c.tell.ensures.line_after
