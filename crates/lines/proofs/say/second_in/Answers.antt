-- `lines::say::second_in` meets its contract: the second word of the code, where it has one.
use mathlib.Core.Path.{◌≡◌, sym, ◌∙◌}
use borrow.Author.Tests.{ne_eqb}
use Rattle.word.specs.Spelling.{second_of}
use Rattle.render.specs.Says.{says}
use Rattle.lines.proofs.say.second_in.Goals as goal

pub returns-then-k-eq0 : goal.returns-then-k-eq0
unfolding says
returns-then-k-eq0 c s label r e f =
    let q : second_of r.kind r.code ≡ 0 = (λ i. second_of (e i) (f i)) ∙ sym c.second_word-k.ensures ∙ c.if-k-eq0.true in
    rw q

pub returns-else-k-eq0 : goal.returns-else-k-eq0
unfolding says
returns-else-k-eq0 c s label r e f =
    let q : second_of r.kind r.code ≡ c.second_word-k.result = (λ i. second_of (e i) (f i)) ∙ sym c.second_word-k.ensures in
    rw (q, ne_eqb _ 0 c.if-k-eq0.false)
