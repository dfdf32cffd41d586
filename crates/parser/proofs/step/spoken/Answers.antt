-- `parser::step::spoken` meets its contract: the `;` ends options, and all else is a word that is taken.
use mathlib.Core.Path.{◌≡◌, refl, sym, ap, ◌∙◌}
use mathlib.Core.Bool.{Bool, true, false, not, ◌&&◌, ◌||◌}
use lib.Dec.{eqb}
use denote.Enum.Bare.{sameb}
use Rattle.lexer.specs.contracts.Kind.{the_type}
use Rattle.lexer.specs.declared.Kind.{Kind}
use Rattle.lexer.specs.Kinds.{number_of}
use Rattle.lexer.proofs.Kinded.{by_number}
use Rattle.std.proofs.Common.{Err}
use Rattle.parser.proofs.Exits.{handed_on}
use Rattle.parser.proofs.Chosen.{another, no_more, end_goes}
use Rattle.parser.proofs.step.spoken.Goals as goal

-- the test, and what the definition tests
not_over : (a b : Bool) → (not a || not b) ≡ true → (a && b) ≡ false
not_over true true h = sym h
not_over true false h = refl
not_over false b h = refl

is_over : (a b : Bool) → (not a || not b) ≡ false → (a && b) ≡ true
is_over true true h = refl
is_over true false h = sym h
is_over false b h = sym h

by_kind : {r b : Bool} (a : Bool) (k : Kind) → r ≡ not (sameb the_type k Kind.SemiColon) → (not a || r) ≡ b → (not a || not (eqb (number_of k) 3)) ≡ b
by_kind a k e h = ap (λ t. not a || not t) (sym (by_number k Kind.SemiColon)) ∙ ap (λ t. not a || t) (sym e) ∙ h

pub returns-then-form-ne : goal.returns-then-form-ne
returns-then-form-ne c =
    let g = c.args in
    let e = c.form_of-form.ensures in record { of = (λ x y z. c.worded.ensures.of ∙ another g.lent.now.now g.version g.f g.held x y z (rw (← e) (not_over (eqb c.form_of-form.result 2) (eqb (number_of g.held.kind) 3) (by_kind _ _ c.ne.ensures c.if-form-ne.true)))); low = c.worded.ensures.low }

pub returns-in_err-next : goal.returns-in_err-next
returns-in_err-next c =
    let e = c.form_of-form.ensures in
    let g = c.args in
    rw (handed_on _ _ c.from_residual.ensures.1) (record {
      of = (λ x y z. no_more g.lent.now.now g.version g.f g.held x y z (rw (← e) (is_over (eqb c.form_of-form.result 2) (eqb (number_of g.held.kind) 3) (by_kind _ _ c.ne.ensures c.if-form-ne.false))) (Err c.in_err-next.field-0.0) c.in_err-next.ensures);
      low = tt;
    })

pub returns : goal.returns
returns c =
    let e = c.form_of-form.ensures in
    let g = c.args in
    record { of = (λ x y z. end_goes g.lent.now.now g.version g.f g.held x y z (rw (← e) (is_over (eqb c.form_of-form.result 2) (eqb (number_of g.held.kind) 3) (by_kind _ _ c.ne.ensures c.if-form-ne.false))) _ _ c.in_ok-next.ensures c.after_options.ensures); low = tt }
