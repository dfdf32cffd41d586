-- `file::put` meets its contract: a record's bytes are a row of 36 bytes.
use borrow.Author.Tests.{le-ltb}
use Rattle.rowfile.specs.Rows.{stored}
use Rattle.record.proofs.Laws.{encoded_length}
use Rattle.file.proofs.put.Goals as goal

pub returns-then-file-index : goal.returns-then-file-index
unfolding stored
returns-then-file-index c =
    record { value = rw (le-ltb _ _ c.if-file-index.true); file_after = rw (le-ltb _ _ c.if-file-index.true) }

pub returns : goal.returns
returns c =
    let bytes = c.bytes.ensures in
    let put = c.put.ensures in
    let r = c.args.r in
    record { value = rw (bytes, encoded_length r) at put.value; file_after = rw (bytes, encoded_length r) at put.file_after }
