-- `stretches` meets its contract: each pass gives the next records, and the run says how far the file has them.
use mathlib.Core.Path.{refl, sym, ap, ◌∙◌}
use native.Mathlib.Omega.{arith}
use lib.ListN.{length}
use Rattle.parser.proofs.Exits.{handed_on}
use Rattle.checker.specs.Passing.{stretch}
use Rattle.checker.proofs.Laying.{laid_length}
use Rattle.checker.proofs.Following.{so_start, so_within, so_next, run_is, so_last, so_refused}
use Rattle.checker.proofs.order.stretches.Goals as goal

pub loop-c-init : goal.loop-c-init
loop-c-init c =
    (so_start c.args.text.now c.args.start c.args.file.now c.requires.1, refl)

pub pass-requires : goal.pass-requires
pass-requires c =
    c.loop-c.invariant.0.sound

pub returns-in_err-c : goal.returns-in_err-c
returns-in_err-c c =
    let l = c.loop-c in
    rw (handed_on _ _ c.from_residual.ensures.1) (so_refused c.args.text.now c.args.start c.args.file.now l.st l.run l.invariant.0 _ c.in_err-c.ensures.0)

pub run_after-run-requires : goal.run_after-run-requires
run_after-run-requires c =
    let l = c.loop-c in
    let p = rw c.in-Over.is at c.in_ok-c.ensures in
    (omega (arith, p.3, c.requires.0, l.invariant.1), so_within c.args.text.now c.args.start c.args.file.now l.st l.run l.invariant.0)

pub run_after-run-requires-in-On : goal.run_after-run-requires-in-On
run_after-run-requires-in-On c =
    let l = c.loop-c in
    (omega (arith, c.requires.0, l.invariant.1), so_within c.args.text.now c.args.start c.args.file.now l.st l.run l.invariant.0)

pub loop-c-smaller : goal.loop-c-smaller
loop-c-smaller c =
    let f = rw c.in-On.is at c.in_ok-c.ensures in omega (arith, f.fewer)

pub loop-c-preserved : goal.loop-c-preserved
loop-c-preserved c =
    let l = c.loop-c in
    let f = rw c.in-On.is at c.in_ok-c.ensures in (
      so_next c.args.text.now c.args.start c.args.file.now l.st l.run l.invariant.0 l.w stretch (omega (arith, c.requires.0, l.invariant.1)) _ _ f _ c.run_after-run-in-On.ensures,
      ap length f.laid ∙ laid_length f.given 0 l.w ∙ l.invariant.1,
    )

pub returns : goal.returns
returns c =
    let l = c.loop-c in
    let p = rw c.in-Over.is at c.in_ok-c.ensures in
    so_last c.args.text.now c.args.start c.args.file.now l.st l.run l.invariant.0 l.w _ _ p.0 p.1 p.2 p.4 (omega (arith, p.3, c.requires.0, l.invariant.1)) _ c.run_after-run.ensures c.eq.result
    (λ h. run_is _ _ (sym c.eq.ensures ∙ h))
