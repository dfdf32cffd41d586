-- `rows::word_of` meets its contract: the rows of the outer blocks come first, and where none of them gives the kind, those of the inner.
use mathlib.Core.Path.{◌≡◌, refl, sym, ◌∙◌}
use mathlib.Core.Bool.{true}
use Rattle.word.specs.Words.{keys, values, words, raised, upper, same, first_where, word_of}
use Rattle.rows.specs.Packed.{outer_rows, inner_rows, word_of_kind}
use Rattle.rows.proofs.Begun.{before_these, wordy, after_those}
use Rattle.rows.proofs.word_of.Goals as goal

spelt : wordy outer_rows ≡ true
unfolding keys values words raised upper same first_where word_of wordy
spelt = refl

pub returns-then-w-ne0 : goal.returns-then-w-ne0
unfolding word_of_kind
returns-then-w-ne0 c q =
    let o = c.word_of-w.ensures in o ∙ before_these _ outer_rows inner_rows (λ z. c.if-w-ne0.true (o ∙ z))

pub returns : goal.returns
unfolding word_of_kind
returns c q =
    let o = c.word_of-w.ensures in c.word_of.ensures q ∙ after_those _ outer_rows inner_rows spelt (sym o ∙ c.if-w-ne0.false)
