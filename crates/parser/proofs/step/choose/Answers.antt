-- `parser::step::choose` meets its contract: each form of a block has its function.
use mathlib.Core.Path.{sym, ◌∙◌}
use mathlib.Core.List.{[], ◌∷◌}
use Rattle.word.proofs.Steps.{apart}
use Rattle.parser.proofs.step.choose.Goals as goal

pub returns-in-0 : goal.returns-in-0
returns-in-0 c =
    record { of = c.keyed.ensures.of (sym c.form_of.ensures ∙ c.in-0.is); low = c.keyed.ensures.low }

pub returns-in-3 : goal.returns-in-3
returns-in-3 c =
    let g = c.args in
    let z = sym c.form_of.ensures ∙ c.in-3.is in
    record { of = c.parts.ensures.of z g.lent.now.now g.version; low = c.parts.ensures.low z }

pub returns-in-4 : goal.returns-in-4
returns-in-4 c =
    let g = c.args in
    let z = sym c.form_of.ensures ∙ c.in-4.is in
    record { of = c.counted.ensures.of z g.lent.now.now g.version; low = c.counted.ensures.low z }

pub returns-in_default : goal.returns-in_default
returns-in_default c =
    let e = c.form_of.ensures in
    let n = (apart _ (0 ∷ 3 ∷ 4 ∷ []) (Unit {0}) c.in_default.in_default-own.rest).1 in
    record { of = c.spoken.ensures.of (λ z. n.0 (e ∙ z)) (λ z. n.1.0 (e ∙ z)) (λ z. n.1.1.0 (e ∙ z)); low = c.spoken.ensures.low }
