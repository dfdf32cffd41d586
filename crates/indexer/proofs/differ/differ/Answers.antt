-- `differ` meets its contract: what is met of the records, and how far the counts agree, say where the index first differs.
use mathlib.Core.Path.{◌∙◌}
use Rattle.indexer.proofs.Filling.{left}
use Rattle.indexer.proofs.Deciding.{differs_at_once, differs_later}
use Rattle.indexer.proofs.differ.differ.Goals as goal

pub returns-in-None : goal.returns-in-None
returns-in-None c =
    let a = c.args in
    let w = c.named_in in
    let f = c.rising-front in
    differs_at_once a.text.now a.index.now (left a.records.now) c.requires w.result w.ensures f.result.n f.ensures.stops c.meet.result
    (rw (f.ensures.of.0, f.ensures.of.1) at c.meet.ensures) c.in-None.is (c.if-front-entered_in.true ∙ c.entered_in.ensures)

pub returns-in_default : goal.returns-in_default
returns-in_default c =
    let a = c.args in
    let w = c.named_in in
    let f = c.rising-front in
    differs_later a.text.now a.index.now (left a.records.now) c.requires w.result w.ensures f.result.n f.ensures.stops c.meet.result
    (rw (f.ensures.of.0, f.ensures.of.1) at c.meet.ensures) c.agreed.result (rw (c.unwrap_or.ensures, f.ensures.of.0, f.ensures.of.1) at c.agreed.ensures)
