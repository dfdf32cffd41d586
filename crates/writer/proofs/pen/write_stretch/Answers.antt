-- `write_stretch` meets its contract: the records before k are written.
use mathlib.Core.Path.{◌≡◌, sym, subst}
use mathlib.Core.Bool.{true}
use mathlib.Core.List.{[], ◌∷◌}
use native.Mathlib.Omega.{arith}
use Rattle.reader.specs.Open.{blocks_of, Ranked}
use Rattle.render.specs.Plain.{bare}
use Rattle.render.specs.Fit.{admits}
use Rattle.writer.specs.Penned.{frames_of, Wrote}
use Rattle.writer.proofs.Stretching.{the_record, never_past, wrote_none, next_admitted, wrote_next, wrote_all}
use Rattle.writer.proofs.pen.write_stretch.Goals as goal

pub loop-k-init : goal.loop-k-init
loop-k-init c =
    let a = c.args in
    let s = a.page.now.text.now in
    wrote_none s a.w.now a.page.now a.o _ c.requires.1.0

pub returns-in_default : goal.returns-in_default
returns-in_default c =
    let l = c.loop-k in
    absurd (never_past c.args.w.now l.k (omega (arith, c.requires.0, c.loop-k-test.true)) _ c.read.ensures c.in_default.is)

pub write_record-open-requires : goal.write_record-open-requires
write_record-open-requires c =
    let l = c.loop-k in
    let a = c.args in
    let s = a.page.now.text.now in
    let r = the_record a.w.now l.k (omega (arith, c.requires.0, c.loop-k-test.true)) _ c.read.ensures _ c.in-Some.is in
    subst (λ t. Ranked (frames_of t l.«open» l.outer) × (admits l.«open».version (frames_of t l.«open» l.outer) (bare t c.in-Some.r) ≡ true)) (sym l.invariant.put.of)
    (l.invariant.ranked, next_admitted s a.w.now _ l.k _ l.«open» _ _ l.invariant _ r a.c c.loop-k-test.true c.requires.1.1)

pub loop-k-preserved : goal.loop-k-preserved
loop-k-preserved c =
    let l = c.loop-k in
    let a = c.args in
    let s = a.page.now.text.now in
    let r = the_record a.w.now l.k (omega (arith, c.requires.0, c.loop-k-test.true)) _ c.read.ensures _ c.in-Some.is in
    wrote_next s a.w.now _ l.k _ l.«open» _ _ l.invariant _ r _ _ _
    (subst (λ t. Wrote t (blocks_of t l.«open» l.outer) (bare t c.in-Some.r ∷ []) l.page c.write_record-open.result c.write_record-open.new.outer c.write_record-open.new.page) l.invariant.put.of c.write_record-open.ensures)

pub returns : goal.returns
returns c =
    let l = c.loop-k in
    let a = c.args in
    wrote_all a.page.now.text.now a.w.now l.k a.c (omega (arith, c.loop-k-test.false)) l.invariant
