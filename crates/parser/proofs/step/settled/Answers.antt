-- `parser::step::settled` meets its contract: without what holds only up to 5.4 the act is the same at such a version, and a refusal at another.
use Prim.Native.Nat.{ℕ, ◌-◌, ◌/◌, ◌%◌, ◌≤◌, ◌<◌}
use mathlib.Core.Path.{◌≡◌, refl}
use native.Mathlib.Omega.{arith}
use borrow.Author.Tests.{le-leb, lt-leb}
use Rattle.grammar.specs.Turns.{perform}
use Rattle.rows.specs.Packed.{plain, act_of}
use Rattle.parser.specs.Stepped.{SameAct}
use Rattle.parser.proofs.step.settled.Goals as goal

older : (v h i : ℕ) → 128 ≤ h % 256 → v ≤ 5400000 → SameAct v (act_of (h - 128) i) (act_of h i)
unfolding act_of perform
older v h i q l f a taken p =
    let e : (h - 128) % 128 ≡ h % 128 = omega arith in
    let d : (h - 128) / 256 ≡ h / 256 = omega arith in
    rw (le-leb 128 (h % 256) q, lt-leb 128 ((h - 128) % 256) (omega arith), le-leb v 5400000 l, e, d)

newer : (v h i : ℕ) → 128 ≤ h % 256 → 5400000 < v → SameAct v (act_of 85 0) (act_of h i)
unfolding act_of plain perform
newer v h i q l f a taken p = rw (le-leb 128 (h % 256) q, lt-leb v 5400000 l)

pub returns-then-h-lt-UP_TO_54 : goal.returns-then-h-lt-UP_TO_54
returns-then-h-lt-UP_TO_54 c =
    record { same = (λ f a taken p. refl); plain = omega arith }

pub overflow_sub-result : goal.overflow_sub-result
overflow_sub-result c =
    omega arith

pub overflow_add-result : goal.overflow_add-result
overflow_add-result c =
    omega arith

pub returns-then-version-le5400000 : goal.returns-then-version-le5400000
returns-then-version-le5400000 c =
    record { same = older _ _ _ c.if-h-lt-UP_TO_54.false c.if-version-le5400000.true; plain = omega arith }

pub returns-else-version-le5400000 : goal.returns-else-version-le5400000
returns-else-version-le5400000 c =
    record { same = newer _ _ _ c.if-h-lt-UP_TO_54.false c.if-version-le5400000.false; plain = omega arith }
