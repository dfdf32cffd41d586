-- `parser::engine::owner_of` meets its contract: only the library starts nowhere.
use borrow.Author.Tests.{eq-eqb, ne_eqb}
use Rattle.parser.proofs.engine.owner_of.Goals as goal

pub returns-then-f-eq-LIBRARY : goal.returns-then-f-eq-LIBRARY
returns-then-f-eq-LIBRARY c s =
    rw (eq-eqb _ 0 c.if-f-eq-LIBRARY.true)

pub returns : goal.returns
returns c s =
    rw (ne_eqb _ 0 c.if-f-eq-LIBRARY.false)
