-- `write_stretches` meets its contract: each pass gives the next records, which are written; after the last the blocks end.
use Prim.Native.Nat.{◌/◌, ◌≤◌}
use mathlib.Core.Path.{refl, sym, ap, subst, ◌∙◌}
use mathlib.Core.List.{map}
use Rattle.std.specs.Prelude.{Ok}
use native.Mathlib.Omega.{arith}
use lib.ListN.{length}
use Rattle.file.specs.File.{front}
use Rattle.reader.specs.Open.{blocks_of}
use Rattle.reader.specs.Passed.{Sound, Passes}
use Rattle.render.specs.Pieces.{text}
use Rattle.render.specs.Plain.{bare}
use Rattle.render.specs.Lines.{lines}
use Rattle.checker.specs.Passing.{stretch}
use Rattle.checker.proofs.Laying.{laid_length}
use Rattle.lines.proofs.Laws.{puts_as}
use Rattle.writer.specs.Penned.{May, Wrote}
use Rattle.writer.proofs.Going.{so_start, next_may, so_next, last_may, so_last, so_refused}
use Rattle.writer.proofs.pen.write_stretches.Goals as goal

pub loop-c-init : goal.loop-c-init
loop-c-init c =
    let a = c.args in
    (so_start a.page.now.text.now a.start a.page.now c.requires.1.1.sound, refl)

pub pass-requires : goal.pass-requires
pass-requires c =
    let l = c.loop-c in
    subst (λ t. Sound t l.st) (sym l.invariant.0.wrote.put.of) l.invariant.0.sound

pub write_last-requires : goal.write_last-requires
write_last-requires c =
    let l = c.loop-c in
    let a = c.args in
    let s = a.page.now.text.now in
    let z = c.requires in
    let of = l.invariant.0.wrote.put.of in
    let p = subst (λ t. Passes t l.st stretch l.w c.pass.new.file c.pass.result) of c.pass.ensures in
    let p = (rw (c.in-Ok-Over.is ∙ ap Ok c.in-Ok-Over.field-0-is) at p) in (
      omega (arith, z.0, l.invariant.1, p.3, ap length p.4, laid_length p.0 0 l.w),
      subst (λ t. May t l.«open» l.outer (map (bare t) (front c.in-Ok-Over.c c.pass.new.file))) (sym of)
          (last_may s a.start z.1.0 z.1.1 l.st _ l.«open» l.outer _ l.invariant.0 l.w _ _ (omega (arith, z.0, l.invariant.1, p.3)) p.0 p.1 p.2 p.4),
    )

pub write_stretch-open-requires : goal.write_stretch-open-requires
write_stretch-open-requires c =
    let l = c.loop-c in
    let a = c.args in
    let s = a.page.now.text.now in
    let z = c.requires in
    let of = l.invariant.0.wrote.put.of in
    let room : stretch ≤ length l.w / 36 = omega (arith, z.0, l.invariant.1) in
    let p = subst (λ t. Passes t l.st stretch l.w c.pass.new.file c.pass.result) of c.pass.ensures in
    let f = (rw (c.in-Ok-On.is ∙ ap Ok c.in-Ok-On.field-0-is) at p) in (
      omega (arith, ap length f.laid, laid_length f.given 0 l.w),
      subst (λ t. May t l.«open» l.outer (map (bare t) (front stretch c.pass.new.file))) (sym of)
          (next_may s a.start z.1.0 z.1.1 l.st _ l.«open» l.outer _ l.invariant.0 l.w _ stretch room _ f),
    )

pub loop-c-smaller : goal.loop-c-smaller
loop-c-smaller c =
    let l = c.loop-c in
    let p = subst (λ t. Passes t l.st stretch l.w c.pass.new.file c.pass.result) l.invariant.0.wrote.put.of c.pass.ensures in
    let f = (rw (c.in-Ok-On.is ∙ ap Ok c.in-Ok-On.field-0-is) at p) in
    omega (arith, f.fewer)

pub loop-c-preserved : goal.loop-c-preserved
loop-c-preserved c =
    let l = c.loop-c in
    let a = c.args in
    let s = a.page.now.text.now in
    let z = c.requires in
    let of = l.invariant.0.wrote.put.of in
    let room : stretch ≤ length l.w / 36 = omega (arith, z.0, l.invariant.1) in
    let p = subst (λ t. Passes t l.st stretch l.w c.pass.new.file c.pass.result) of c.pass.ensures in
    let f = (rw (c.in-Ok-On.is ∙ ap Ok c.in-Ok-On.field-0-is) at p) in
    let w = c.write_stretch-open in (
      so_next s a.start z.1.0 z.1.1 l.st _ l.«open» l.outer _ l.invariant.0 l.w _ stretch room _ f _ _ _
          (subst (λ t. Wrote t (blocks_of t l.«open» l.outer) (map (bare t) (front stretch c.pass.new.file)) l.page w.result w.new.outer w.new.page) of w.ensures),
      ap length f.laid ∙ laid_length f.given 0 l.w ∙ l.invariant.1,
    )

pub returns-in-Err : goal.returns-in-Err
returns-in-Err c =
    let l = c.loop-c in
    let a = c.args in
    let z = c.requires in
    let p = subst (λ t. Passes t l.st stretch l.w c.pass.new.file c.pass.result) l.invariant.0.wrote.put.of c.pass.ensures in
    let e = (rw c.in-Err.is at p) in
    λ xs x. absurd (so_refused a.page.now.text.now a.start z.1.0 z.1.1 l.st _ l.«open» l.outer _ l.invariant.0 _ e.0)

pub returns-in-Ok-Over : goal.returns-in-Ok-Over
returns-in-Ok-Over c =
    let l = c.loop-c in
    let a = c.args in
    let s = a.page.now.text.now in
    let z = c.requires in
    let of = l.invariant.0.wrote.put.of in
    let p = subst (λ t. Passes t l.st stretch l.w c.pass.new.file c.pass.result) of c.pass.ensures in
    let p = (rw (c.in-Ok-Over.is ∙ ap Ok c.in-Ok-Over.field-0-is) at p) in
    so_last s a.start z.1.0 z.1.1 l.st _ l.«open» l.outer _ l.invariant.0 l.w _ _ (omega (arith, z.0, l.invariant.1, p.3)) p.0 p.1 p.2 p.4 _
    (puts_as (ap (λ t. text (lines (blocks_of t l.«open» l.outer) (map (bare t) (front c.in-Ok-Over.c c.pass.new.file)))) of) c.write_last.ensures)
