-- `word::codes::place` meets its contract: the place in the pairs, counted from 1, is the place in the list of their numbers.
use Rattle.std.proofs.Common.{sym, ap, ◌∙◌}
use Rattle.word.proofs.Values.{code, coded}
use Rattle.word.proofs.codes.place.Goals as goal

pub returns-in-Some : goal.returns-in-Some
returns-in-Some c =
    let a = c.args in
    ap code (sym c.in-Some.is ∙ c.index.ensures.value) ∙ coded a.first a.second a.list.now

pub returns-in-None : goal.returns-in-None
returns-in-None c =
    let a = c.args in
    ap code (sym c.in-None.is ∙ c.index.ensures.value) ∙ coded a.first a.second a.list.now
