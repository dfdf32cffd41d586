-- `parser::items::spelt` meets its contract: two bytes ask for a word, the others for a string.
use Rattle.grammar.specs.Engine.{item}
use Rattle.rows.proofs.Ranges.{at_word_microns, at_word_units, at_string}
use Rattle.parser.proofs.Listed.{units_word, microns_word, unset_flat}
use Rattle.parser.proofs.items.spelt.Goals as goal

pub returns-then-it-eq-WORD_MICRONS : goal.returns-then-it-eq-WORD_MICRONS
unfolding item
returns-then-it-eq-WORD_MICRONS c f b o h =
    let g = c.args in
    rw (c.unchanged.ensures g.lent.now.now b, c.expect_keyword.ensures o h, c.if-it-eq-WORD_MICRONS.true, at_word_microns, microns_word) (unset_flat g.lent.now.now b g.d _)

pub returns-then-it-eq-WORD_UNITS : goal.returns-then-it-eq-WORD_UNITS
unfolding item
returns-then-it-eq-WORD_UNITS c f b o h =
    let g = c.args in
    rw (c.unchanged-then-it-eq-WORD_UNITS.ensures g.lent.now.now b, c.expect_keyword-then-it-eq-WORD_UNITS.ensures o h, c.if-it-eq-WORD_UNITS.true, at_word_units, units_word) (unset_flat g.lent.now.now b g.d _)

pub returns : goal.returns
returns c f b o h =
    rw (at_string c.args.it c.requires.0 c.requires.1 (c.if-it-eq-WORD_MICRONS.false, (c.if-it-eq-WORD_UNITS.false, tt))) (c.to_string.ensures f b o h)
