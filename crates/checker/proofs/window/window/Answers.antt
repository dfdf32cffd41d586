-- `window` meets its contract: the scan starts with clear marks, and the first that stays clear is found.
use Rattle.std.proofs.Common.{rules, tests, arith, ◌≡◌}
use Rattle.std.proofs.lemmas.Iterator.{YieldsList-from_slice, IsFirst-from_position}
use Rattle.checker.proofs.Scanning.{windowed, first_clear}
use Rattle.checker.proofs.window.window.Goals as goal

pub returns : goal.returns
returns c =
    windowed c.scan-limit.ensures (first_clear c.scan-limit.new.marks c.args.c (omega arith) c.position-unmet.result
    (IsFirst-from_position _ _ c.position-unmet.result (λ x. x ≡ 0) (λ x. x ≡ 0 → ⊥) c.position-unmet.ensures.ran (YieldsList-from_slice _ c.iter.ensures.rest)
    (λ x q k. search (rules, tests)) (λ x q k. search (rules, tests))))
