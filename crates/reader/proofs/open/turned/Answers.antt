-- `reader::open::turned` meets its contract: a block that is not the library has its place.
use borrow.Author.Tests.{ne_eqb}
use Rattle.reader.proofs.open.turned.Goals as goal

pub returns : goal.returns
returns c s outer h k =
    let a = c.args in rw (ne_eqb a.o.inner.block 0 h, ne_eqb a.block 0 k)
