-- `windows` meets its contract: each pass fills a window with the next records, and what is seen then covers them too.
use mathlib.Core.Path.{refl, ap, ◌∙◌}
use native.Mathlib.Omega.{arith}
use lib.ListN.{length}
use Rattle.checker.specs.Passing.{width}
use Rattle.checker.proofs.Laying.{laid_length}
use Rattle.checker.proofs.Windowing.{under_start, on_sorted, on_inside, on_under, over_sorted, over_inside, over_verdict, never_refused}
use Rattle.checker.proofs.windows.windows.Goals as goal

pub loop-c-init : goal.loop-c-init
loop-c-init c =
    let s = c in
    (under_start s.args.text.now s.args.start s.args.file.now _ s.requires.2.0 s.requires.2.1 refl refl refl, refl, refl)

pub pass-requires : goal.pass-requires
pass-requires c =
    c.loop-c.invariant.0.sound

pub seen_after-requires : goal.seen_after-requires
seen_after-requires c =
    let l = c.loop-c in
    let s = c in
    let p = rw c.in-Over.is at c.in_ok-c.ensures in
    let few = p.3 in (
      l.invariant.0.covered.limit_le,
      omega (arith, few, s.requires.0, l.invariant.1),
      omega (arith, few, s.requires.1, l.invariant.2),
      over_sorted s.args.text.now s.args.start s.args.file.now l.st l.seen l.invariant.0 l.w _ _ _ p.1 p.2 p.4 (omega (arith, few, s.requires.0, l.invariant.1)),
      over_inside s.args.text.now s.args.start s.args.file.now l.st l.seen l.invariant.0 l.w _ _ _ p.1 p.2 p.4 (omega (arith, few, s.requires.0, l.invariant.1)),
      omega arith,
    )

pub verdict_of-requires : goal.verdict_of-requires
verdict_of-requires c =
    omega (arith, c.seen_after.ensures.low)

pub at_of-high-requires : goal.at_of-high-requires
at_of-high-requires c =
    let l = c.loop-c in
    let s = c in
    omega (arith, s.requires.0, l.invariant.1)

pub seen_after-seen-requires : goal.seen_after-seen-requires
seen_after-seen-requires c =
    let l = c.loop-c in
    let s = c in
    let f = rw c.in-On.is at c.in_ok-c.ensures in
    let at = c.at_of-high in (
      l.invariant.0.covered.limit_le,
      omega (arith, s.requires.0, l.invariant.1),
      omega (arith, s.requires.1, l.invariant.2),
      on_sorted s.args.text.now s.args.start s.args.file.now l.st l.seen l.invariant.0 l.w _ width _ f (omega (arith, s.requires.0, l.invariant.1)) (omega arith),
      on_inside s.args.text.now s.args.start s.args.file.now l.st l.seen l.invariant.0 l.w _ width _ f (omega (arith, s.requires.0, l.invariant.1)) (omega arith) at.result at.ensures.0,
      at.ensures.1,
    )

pub loop-c-smaller : goal.loop-c-smaller
loop-c-smaller c =
    let l = c.loop-c in
    let s = c in
    let f = rw c.in-On.is at c.in_ok-c.ensures in omega (arith, f.fewer)

pub loop-c-preserved : goal.loop-c-preserved
loop-c-preserved c =
    let l = c.loop-c in
    let s = c in
    let f = rw c.in-On.is at c.in_ok-c.ensures in
    let at = c.at_of-high in (
      on_under s.args.text.now s.args.start s.args.file.now l.st l.seen l.invariant.0 l.w _ width _ f (omega (arith, s.requires.0, l.invariant.1)) (omega arith) at.result at.ensures.0 _ c.seen_after-seen.ensures.covers,
      ap length f.laid ∙ laid_length f.given 0 l.w ∙ l.invariant.1,
      omega arith,
    )

pub returns-in_err-c : goal.returns-in_err-c
returns-in_err-c c =
    let l = c.loop-c in
    let s = c in
    λ rs e. absurd (never_refused l.invariant.0 _ c.in_err-c.ensures.0)

pub returns : goal.returns
returns c =
    let l = c.loop-c in
    let s = c in
    let p = rw c.in-Over.is at c.in_ok-c.ensures in
    let few = p.3 in
    over_verdict s.args.text.now s.args.start s.args.file.now l.st l.seen l.invariant.0 l.w _ _ _ p.1 p.2 p.4 (omega (arith, few, s.requires.0, l.invariant.1)) _ c.seen_after.ensures.covers _ c.verdict_of.ensures
