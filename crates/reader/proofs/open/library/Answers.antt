-- `reader::open::library` meets its contract: its numbers are computed.
use Rattle.rows.specs.Packed.{block_of, kinds_in, kinds_of}
use Rattle.reader.specs.Open.{frames_in}
use Rattle.reader.proofs.open.library.Goals as goal

pub returns : goal.returns
unfolding block_of kinds_in kinds_of frames_in
returns c s o =
    rw c.nowhere.ensures
