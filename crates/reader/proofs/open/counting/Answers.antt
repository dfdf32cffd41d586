-- `reader::open::counting` meets its contract: the kind is taken from those that the block lacks, and from none it takes none.
use Rattle.reader.proofs.Lacking.{by_none}
use Rattle.reader.proofs.open.counting.Goals as goal

pub returns-then-f-lt256 : goal.returns-then-f-lt256
returns-then-f-lt256 c s =
    let a = c.args in rw (← (by_none a.kind a.f.lacks c.if-f-lt256.true).0)
