-- `write_all` meets its contract: the records that are written are the reading's, from the first state on.
use Rattle.file.specs.File.{held}
use Rattle.writer.proofs.Answering.{ready, may, as_text, as_text_read}
use Rattle.writer.proofs.write_all.Goals as goal

pub write_held-requires : goal.write_held-requires
write_held-requires c =
    let a = c.args in
    may a.text.now (held a.file.now) (c.requires.2 c.if-in_order.true) a.start c.requires.0

pub write_from-requires : goal.write_from-requires
write_from-requires c =
    let a = c.args in
    (c.requires.1.0, ready a.text.now c.requires.1.0 c.requires.1.1 a.start c.requires.0)

pub returns-then-in_order : goal.returns-then-in_order
returns-then-in_order c =
    let a = c.args in
    as_text a.text.now (held a.file.now) (c.requires.2 c.if-in_order.true) a.start c.requires.0 c.write_held.ensures

pub returns-else-in_order : goal.returns-else-in_order
returns-else-in_order c =
    let a = c.args in
    as_text_read a.text.now c.requires.1.0 c.requires.1.1 a.start c.requires.0 c.write_from.ensures
