-- `lines::block::next` meets its contract: the block that is opened, or the same.
use Rattle.lines.proofs.Stated.{into_block, in_block}
use Rattle.lines.proofs.block.next.Goals as goal

pub returns-then-how : goal.returns-then-how
returns-then-how c f b =
    into_block f c.args.does c.if-how.true

pub returns-else-how : goal.returns-else-how
returns-else-how c f b =
    in_block f c.args.does c.args.block b c.if-how.false
