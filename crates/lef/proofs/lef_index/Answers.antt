-- `lef_index` meets its contract: what the call hands out comes back.
use Rattle.lef.proofs.Numbered.{build_back}
use Rattle.lef.proofs.lef_index.Goals as goal

pub returns-clause-line_after : goal.returns-clause-line_after
returns-clause-line_after c =
    let a = c.args in
    rw (c.build.ensures.value, build_back a.text.now a.records.now _) at c.tell.ensures.line_after
