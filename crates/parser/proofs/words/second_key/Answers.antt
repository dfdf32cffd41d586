-- `parser::words::second_key` meets its contract: the two words that have one.
use mathlib.Core.List.{[], ◌∷◌}
use borrow.Author.Tests.{ne_eqb}
use Rattle.word.specs.Words.{keys, values, words, raised, upper, same, first_where, word_of}
use Rattle.word.proofs.Steps.{apart}
use Rattle.parser.proofs.words.second_key.Goals as goal

pub returns-in-64 : goal.returns-in-64
unfolding keys values words raised upper same first_where word_of
returns-in-64 c =
    rw c.in-64.is

pub returns-in-34 : goal.returns-in-34
unfolding keys values words raised upper same first_where word_of
returns-in-34 c =
    rw c.in-34.is

pub returns-in_default : goal.returns-in_default
unfolding keys values words raised upper same first_where word_of
returns-in_default c =
    let n = (apart _ (64 ∷ 34 ∷ []) (Unit {0}) c.in_default.in_default-own.rest).1 in
    rw (ne_eqb _ 64 n.0, ne_eqb _ 34 n.1.0)
