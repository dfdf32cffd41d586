-- `reach_owner` meets its contract: a block that does not have the record ends, and is not the last.
use mathlib.Core.Path.{sym, ap, ◌∙◌}
use native.Mathlib.Omega.{arith}
use Rattle.parser.specs.Kept.{frame_of}
use Rattle.reader.specs.Open.{frames_in}
use Rattle.reader.proofs.Stack.{frames_length}
use Rattle.render.specs.Pieces.{text}
use Rattle.render.specs.Plain.{bare}
use Rattle.render.specs.Lines.{closing}
use Rattle.lines.proofs.Laws.{puts_as}
use Rattle.writer.proofs.Ending.{shallow, fewer, ended_none, ended_inner, ended_more}
use Rattle.writer.proofs.pen.reach_owner.Goals as goal

pub loop-r-init : goal.loop-r-init
loop-r-init c =
    let a = c.args in
    let s = a.page.now.text.now in
    ended_none s a.outer.now (bare s a.r) a.o a.page.now c.requires.0 c.requires.1

pub write_closing-requires : goal.write_closing-requires
write_closing-requires c =
    let l = c.loop-r in
    let a = c.args in
    omega (arith, shallow a.page.now.text.now l.«open» a.outer.now l.invariant.ranked)

pub left-open-requires : goal.left-open-requires
left-open-requires c =
    let l = c.loop-r in
    let a = c.args in
    let s = a.page.now.text.now in
    ended_inner s a.outer.now (bare s a.r) _ _ l.«open» l.page l.invariant (sym (c.owns.ensures s) ∙ c.if-owns.false)

pub loop-r-smaller : goal.loop-r-smaller
loop-r-smaller c =
    let l = c.loop-r in
    let a = c.args in
    let s = a.page.now.text.now in
    fewer s l.«open» a.outer.now c.left-open.result (c.left-open.ensures s)

pub loop-r-preserved : goal.loop-r-preserved
loop-r-preserved c =
    let l = c.loop-r in
    let a = c.args in
    let s = a.page.now.text.now in
    let o = l.«open» in
    let fs = frames_in s o.depth a.outer.now in
    ended_more s a.outer.now (bare s a.r) _ _ o l.page l.invariant (sym (c.owns.ensures s) ∙ c.if-owns.false) _
    (puts_as (ap (λ t. text (closing (frame_of t o.inner) fs)) l.invariant.put.of) (c.write_closing.ensures fs (frames_length s o.depth a.outer.now))) _ (c.left-open.ensures s)

pub returns : goal.returns
returns c =
    record { ended = c.loop-r.invariant; owned = sym (c.owns.ensures c.args.page.now.text.now) ∙ c.if-owns.true }
