-- `answer` meets its contract: what is sought in an index that is the reading's is what is sought in the reading.
use mathlib.Core.Path.{◌∙◌}
use Rattle.index.specs.Queries.{name_in}
use Rattle.indexer.proofs.Finding.{sought_in}
use Rattle.indexer.proofs.many.answer.Goals as goal

pub returns : goal.returns
returns c =
    let a = c.args in
    let f = a.front.now in
    c.unwrap_or.ensures ∙ sought_in f.text.now f.index.now c.requires.0 a.q.owner (name_in a.names.now a.q) c.seek.result (rw (c.part.ensures, c.requires.1) at c.seek.ensures)
