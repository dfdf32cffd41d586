-- `same_record` meets its contract: the bytes of a record are its own, and are 36.
use Rattle.file.proofs.Fields.{size_of}
use Rattle.checker.proofs.held.same_record.Goals as goal

pub same_rows-requires : goal.same_rows-requires
same_rows-requires c =
    let a = c.args in
    rw (c.row.ensures, c.row-2.ensures) (size_of a.l.now a.i c.requires.0, size_of a.m.now a.j c.requires.1)

pub returns : goal.returns
returns c =
    rw (← c.row.ensures, ← c.row-2.ensures) c.same_rows.ensures
