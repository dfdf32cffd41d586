-- `parser::items::among` meets its contract: the item's byte says which list.
use borrow.Author.Tests.{eq-eqb, ne_eqb}
use Rattle.rows.proofs.Ranges.{at_among}
use Rattle.parser.proofs.items.among.Goals as goal

pub returns-then-it-eq-VERSIONS : goal.returns-then-it-eq-VERSIONS
returns-then-it-eq-VERSIONS c s f b h l =
    rw (at_among _ h l, eq-eqb _ 80 c.if-it-eq-VERSIONS.true) (c.to_among.ensures s f b)

pub returns : goal.returns
returns c s f b h l =
    rw (at_among _ h l, ne_eqb _ 80 c.if-it-eq-VERSIONS.false) (c.to_among-2.ensures s f b)
