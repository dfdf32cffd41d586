-- `word::long_in` meets its contract: where the letters of the word in the slot are the span's bytes, the span spells it, whatever slot it is.
use mathlib.Core.Path.{sym, ap, ◌∙◌}
use borrow.Author.Tests.{eqb-true}
use native.Mathlib.Omega.{arith}
use lib.ListN.{get_or}
use Rattle.word.specs.declared.spelling.Letters.{Letters}
use Rattle.word.proofs.Words.{both}
use Rattle.word.proofs.Hits.{found_long}
use Rattle.word.proofs.long_in.Goals as goal

pub returns-then-letters-n : goal.returns-then-letters-n
returns-then-letters-n c =
    let a = c.args in
    let t = both _ _ c.if-letters-n.true in
    let u = both _ _ t.1 in
    let e = c.spelt-letters.ensures in
    found_long a.lent.now.now a.start a.stop c.long-k.result c.low_bytes-v.ensures.bytes (omega arith) (omega arith)
    (ap (λ (l : Letters). l.0) (sym e) ∙ eqb-true _ _ t.0) c.eight-w.result c.low_bytes-v.result (omega arith) (omega arith)
    c.eight-w.ensures c.low_bytes-v.ensures.value
    (ap (λ (l : Letters). get_or l.1 0 0) (sym e) ∙ eqb-true _ _ u.0) (ap (λ (l : Letters). get_or l.1 1 0) (sym e) ∙ eqb-true _ _ u.1)
