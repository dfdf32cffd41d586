-- `parser::words::goes_on` meets its contract: the words of the two lists that have values of two words.
use mathlib.Core.Bool.{or_assoc, or-false, or_self, or_self_left, and-true, and-false}
use mathlib.Core.List.{[], ◌∷◌}
use Rattle.word.specs.Words.{keys, values, words, raised, upper, same, first_where, word_of}
use Rattle.word.specs.Codes.{kind_values, values_in, values_of}
use Rattle.word.proofs.Steps.{apart}
use Rattle.grammar.specs.Second.{goes_on}
use Rattle.grammar.proofs.Second.{no_second}
use Rattle.parser.proofs.words.goes_on.Goals as goal

pub returns-in-14 : goal.returns-in-14
unfolding keys values words raised upper same first_where word_of kind_values values_in values_of goes_on
returns-in-14 c =
    simp (c.contains.ensures.value, c.in-14.is, or_assoc, and-true, and-false, or_self_left, or-false, or_self)

pub returns-in-19 : goal.returns-in-19
unfolding keys values words raised upper same first_where word_of kind_values values_in values_of goes_on
returns-in-19 c =
    simp (c.in-19.is, and-true, and-false, or-false)

pub returns-in_default : goal.returns-in_default
unfolding keys values words raised upper same first_where word_of kind_values values_in values_of goes_on
returns-in_default c =
    let n = (apart _ (14 ∷ 19 ∷ []) (Unit {0}) c.in_default.in_default-own.rest).1 in
    no_second _ _ n.0 n.1.0
