-- `write_ends` meets its contract: the innermost block ends, until none is around it.
use mathlib.Core.Path.{ap}
use native.Mathlib.Omega.{arith}
use Rattle.parser.specs.Kept.{frame_of}
use Rattle.reader.specs.Open.{frames_in}
use Rattle.reader.proofs.Stack.{frames_length}
use Rattle.render.specs.Pieces.{text}
use Rattle.render.specs.Lines.{closing}
use Rattle.lines.proofs.Laws.{puts_as}
use Rattle.writer.proofs.Ending.{shallow, fewer, closed_none, closed_more, closed_last}
use Rattle.writer.proofs.pen.write_ends.Goals as goal

pub loop-open-init : goal.loop-open-init
loop-open-init c =
    let a = c.args in
    closed_none a.page.now.text.now a.outer.now a.o a.page.now c.requires

pub write_closing-requires : goal.write_closing-requires
write_closing-requires c =
    let l = c.loop-open in
    let a = c.args in
    omega (arith, shallow a.page.now.text.now l.«open» a.outer.now l.invariant.ranked)

pub left-open-requires : goal.left-open-requires
left-open-requires c =
    let l = c.loop-open in
    let a = c.args in
    (omega (arith, c.if-open-eq0.false), omega (arith, shallow a.page.now.text.now l.«open» a.outer.now l.invariant.ranked))

pub loop-open-smaller : goal.loop-open-smaller
loop-open-smaller c =
    let l = c.loop-open in
    let a = c.args in
    let s = a.page.now.text.now in
    fewer s l.«open» a.outer.now c.left-open.result (c.left-open.ensures s)

pub loop-open-preserved : goal.loop-open-preserved
loop-open-preserved c =
    let l = c.loop-open in
    let a = c.args in
    let s = a.page.now.text.now in
    let o = l.«open» in
    let fs = frames_in s o.depth a.outer.now in
    closed_more s a.outer.now _ _ o l.page l.invariant _
    (puts_as (ap (λ t. text (closing (frame_of t o.inner) fs)) l.invariant.put.of) (c.write_closing.ensures fs (frames_length s o.depth a.outer.now))) _ (c.left-open.ensures s)

pub returns : goal.returns
returns c =
    let l = c.loop-open in
    let a = c.args in
    let s = a.page.now.text.now in
    let o = l.«open» in
    let fs = frames_in s o.depth a.outer.now in
    closed_last s a.outer.now _ _ o l.page l.invariant _
    (puts_as (ap (λ t. text (closing (frame_of t o.inner) fs)) l.invariant.put.of) (c.write_closing.ensures fs (frames_length s o.depth a.outer.now))) c.if-open-eq0.true
