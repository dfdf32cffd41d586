-- `parser::items::asked` meets its contract: the items by the ranges of their bytes.
use Rattle.grammar.specs.Engine.{item}
use Rattle.rows.proofs.Ranges.{at_key}
use Rattle.parser.proofs.Listed.{unset_flat}
use Rattle.parser.proofs.items.asked.Goals as goal

pub returns-then-it-lt-STRING : goal.returns-then-it-lt-STRING
returns-then-it-lt-STRING c f b o h z =
    rw (z c.if-it-lt-STRING.true) (c.to_semi.ensures _ f b o h)

pub returns-then-it-lt-KEY : goal.returns-then-it-lt-KEY
returns-then-it-lt-KEY c f b o h z =
    c.spelt.ensures f b o h

pub returns : goal.returns
unfolding item
returns c f b o h z =
    let g = c.args in
    let k = c.if-it-lt-KEY.false in
    rw (c.unchanged.ensures g.lent.now.now b, c.expect_key.ensures o h, at_key g.it k, c.key_of.ensures k) (unset_flat g.lent.now.now b g.d _)
