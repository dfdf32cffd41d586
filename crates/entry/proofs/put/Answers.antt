-- `entry::put` meets its contract: an entry's bytes are a row of 16 bytes.
use Rattle.entry.proofs.Laws.{encoded_length}
use Rattle.entry.proofs.put.Goals as goal

pub returns : goal.returns
returns c =
    let bytes = c.bytes.ensures in
    let put = c.put.ensures in
    let e = c.args.e in
    record { value = rw (bytes, encoded_length e) at put.value; file_after = rw (bytes, encoded_length e) at put.file_after }
