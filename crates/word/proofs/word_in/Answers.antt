-- `word::word_in` meets its contract: where the letters of the word in the slot are the span's bytes, the span spells it, whatever slot it is.
use mathlib.Core.Path.{sym, ap, ◌∙◌}
use borrow.Author.Tests.{eqb-true}
use native.Mathlib.Omega.{arith}
use lib.ListN.{get_or}
use Rattle.word.specs.declared.spelling.Letters.{Letters}
use Rattle.word.specs.Words.{keys, values, words, upper, same, first_where, word_of}
use Rattle.word.proofs.Words.{both}
use Rattle.word.proofs.Masks.{turned}
use Rattle.word.proofs.Hits.{found}
use Rattle.word.proofs.word_in.Goals as goal

pub returns-then-stop-start : goal.returns-then-stop-start
unfolding keys values words upper same first_where word_of
returns-then-stop-start c =
    let a = c.args in ap word_of (turned a.lent.now.now a.start a.stop c.if-stop-start.true)

pub returns-then-letters-n : goal.returns-then-letters-n
returns-then-letters-n c =
    let a = c.args in
    let t = both _ _ c.if-letters-n.true in
    let e = c.spelt-letters.ensures in
    found a.lent.now.now a.start a.stop c.short-k.result c.low_bytes-w.ensures.bytes (omega arith) (omega arith)
    (ap (λ (l : Letters). l.0) (sym e) ∙ eqb-true _ _ t.0) c.low_bytes-w.result (omega arith) c.low_bytes-w.ensures.value
    (ap (λ (l : Letters). get_or l.1 0 0) (sym e) ∙ eqb-true _ _ t.1)
