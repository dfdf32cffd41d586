-- `vectors::next_of` meets its contract: the position of the first such byte is how many bytes stand before it.
use Rattle.std.proofs.Common.{rules, tests, ◌≡◌}
use lib.ListN.{length-drop}
use native.Mathlib.Omega.{arith}
use Rattle.std.proofs.option.Match.{if_some}
use Rattle.std.proofs.lemmas.List.{take_rest}
use Rattle.std.proofs.lemmas.Iterator.{IsFirst-from_position, YieldsList-from_slice, index_from_first}
use Rattle.vectors.specs.Next.{before}
use Rattle.vectors.proofs.Laws.{before_hit, before_miss, before_none}
use Rattle.vectors.proofs.next_of.Goals as goal

pub returns-in-Some : goal.returns-in-Some
returns-in-Some c =
    let b = c.args.byte in
    let first = IsFirst-from_position _ _ _ (λ x. x ≡ b) (λ x. x ≡ b → ⊥) c.position.ensures.ran (YieldsList-from_slice _ c.iter.ensures.rest) (λ x q k. search (rules, tests)) (λ x q k. search (rules, tests)) in
    let counted = index_from_first (before b) (λ x. x ≡ b) (λ x. x ≡ b → ⊥) (before_none b) (before_hit b) (before_miss b) _ _ first in
    let found = if_some _ _ _ c.in-Some.is first in
    omega (arith, rw (take_rest c.args.input.now c.args.at, c.in-Some.is) at counted, found.0, length-drop c.args.at c.args.input.now)

pub returns-in-None : goal.returns-in-None
returns-in-None c =
    let b = c.args.byte in
    let first = IsFirst-from_position _ _ _ (λ x. x ≡ b) (λ x. x ≡ b → ⊥) c.position.ensures.ran (YieldsList-from_slice _ c.iter.ensures.rest) (λ x q k. search (rules, tests)) (λ x q k. search (rules, tests)) in
    let counted = index_from_first (before b) (λ x. x ≡ b) (λ x. x ≡ b → ⊥) (before_none b) (before_hit b) (before_miss b) _ _ first in
    omega (arith, rw (take_rest c.args.input.now c.args.at, c.in-None.is) at counted, length-drop c.args.at c.args.input.now)
