-- `lookup::owner_in` meets its contract: the four bytes are those of the record's field.
use Rattle.record.specs.Bytes.{decoded}
use Rattle.lookup.proofs.owner_in.Goals as goal

pub returns : goal.returns
unfolding decoded
returns c =
    rw c.row.ensures at c.word32.ensures.eq
