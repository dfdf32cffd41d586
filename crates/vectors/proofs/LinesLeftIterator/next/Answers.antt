-- `next` meets its contract: up to the first newline stands the first line, and behind it the others; where there is none, the last.
use mathlib.Core.Path.{◌≡◌, sym, ap, ◌∙◌}
use native.Mathlib.Omega.{arith}
use lib.ListN.{length}
use Rattle.std.proofs.Common.{rules, tests, ◌+◌, ◌==◌}
use Rattle.std.proofs.lemmas.List.{take_rest}
use Rattle.std.proofs.lemmas.Iterator.{YieldsList-from_slice}
use Rattle.std.proofs.lemmas.Iterator.Search.{position_from_yields_List}
use Rattle.vectors.proofs.Splitting.{first_line, last_line}
use Rattle.vectors.proofs.LinesLeftIterator.next.Goals as goal

pub returns-in-Some-position-clause-steps : goal.returns-in-Some-position-clause-steps
returns-in-Some-position-clause-steps c =
    let e = position_from_yields_List (λ b. b == 10) _ _ c.position.result c.position.ensures.ran (YieldsList-from_slice _ c.iter.ensures.rest) (λ x b q k. search (rules, tests)) in
    rw (c.in-Some.is, take_rest c.in-Some.rest.now (c.in-Some-position.n + 1))
    (first_line (λ b. b == 10) c.in-Some.rest.now c.in-Some-position.n (sym c.in-Some-position.is ∙ e))

pub returns-in-Some-position-clause-goes : goal.returns-in-Some-position-clause-goes
returns-in-Some-position-clause-goes c =
    let e = ap length (returns-in-Some-position-clause-steps c) in
    record { on = λ h. (tt, tt, omega (arith, e)); keeps = tt; rests = λ h. tt }

pub returns-in-None-clause-steps : goal.returns-in-None-clause-steps
returns-in-None-clause-steps c =
    let e = position_from_yields_List (λ b. b == 10) _ _ c.position.result c.position.ensures.ran (YieldsList-from_slice _ c.iter.ensures.rest) (λ x b q k. search (rules, tests)) in
    rw c.in-Some.is (last_line (λ b. b == 10) c.in-Some.rest.now (sym c.in-None.is ∙ e))
