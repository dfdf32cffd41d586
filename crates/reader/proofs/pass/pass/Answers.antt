-- `reader::pass::pass` meets its contract: every turn keeps what is read in all, and takes a token or leaves a block.
use mathlib.Core.Path.{refl, ap, ◌∙◌}
use native.Mathlib.Omega.{arith}
use Rattle.std.specs.Prelude.{Ok}
use Rattle.file.proofs.Laws.{stored_length}
use Rattle.reader.proofs.Turning.{sound_depth}
use Rattle.reader.proofs.Tally.{none_yet, one_more, no_more, over, refused}
use Rattle.reader.proofs.Steps.{room, emits, ends, backs, lasts, back_lasts, goes, stops}
use Rattle.reader.proofs.pass.pass.Goals as goal

pub loop-n-init : goal.loop-n-init
loop-n-init c =
    let a = c in (none_yet a.args.text.now a.args.start a.args.file.now a.requires, omega arith, refl)

pub overflow_add-n : goal.overflow_add-n
overflow_add-n c =
    omega (arith, c.loop-n.invariant.1, c.if-n-most.false, c.ranges.most)

pub shift-open-requires : goal.shift-open-requires
shift-open-requires c =
    let l = c.loop-n in let a = c in let s = a.args.text.now in let i = c.step_in in
    room s l.held l.«open» l.outer l.invariant.0.sound i.result i.ensures _ _ _ (c.in-Ok-Gives.is ∙ ap Ok c.in-Ok-Gives.field-0-is)

pub loop-n-smaller-in-Ok-Gives : goal.loop-n-smaller-in-Ok-Gives
loop-n-smaller-in-Ok-Gives c =
    let l = c.loop-n in let a = c in let s = a.args.text.now in let i = c.step_in in
    let e = emits s l.held l.«open» l.outer l.invariant.0.sound i.result i.ensures _ _ _ (c.in-Ok-Gives.is ∙ ap Ok c.in-Ok-Gives.field-0-is) c.shift-open.result _ c.shift-open.ensures in
    e.falls

pub loop-n-preserved-in-Ok-Gives : goal.loop-n-preserved-in-Ok-Gives
loop-n-preserved-in-Ok-Gives c =
    let l = c.loop-n in let a = c in let s = a.args.text.now in let i = c.step_in in
    let e = emits s l.held l.«open» l.outer l.invariant.0.sound i.result i.ensures _ _ _ (c.in-Ok-Gives.is ∙ ap Ok c.in-Ok-Gives.field-0-is) c.shift-open.result _ c.shift-open.ensures in
    let p = c.put.ensures.file_after in
    (rw p (one_more s _ _ _ _ _ l.invariant.0 _ _ e), omega (arith, l.invariant.1, c.if-n-most.false), rw p (stored_length _ _ _ ∙ l.invariant.2))

pub left-open-requires : goal.left-open-requires
left-open-requires c =
    let l = c.loop-n in (omega (arith, c.if-open-eq0.false), omega (arith, sound_depth c.args.text.now l.held l.«open» l.outer l.invariant.0.sound))

pub loop-n-smaller-in-Ok-Ends : goal.loop-n-smaller-in-Ok-Ends
loop-n-smaller-in-Ok-Ends c =
    let l = c.loop-n in let a = c in let s = a.args.text.now in let i = c.step_in in
    let e = ends s l.held l.«open» l.outer l.invariant.0.sound i.result i.ensures c.left-open.result c.left-open.ensures _ (c.in-Ok-Ends.is ∙ ap Ok c.in-Ok-Ends.field-0-is) (omega (arith, c.if-open-eq0.false)) in
    e.falls

pub loop-n-preserved-in-Ok-Ends : goal.loop-n-preserved-in-Ok-Ends
loop-n-preserved-in-Ok-Ends c =
    let l = c.loop-n in let a = c in let s = a.args.text.now in let i = c.step_in in
    let e = ends s l.held l.«open» l.outer l.invariant.0.sound i.result i.ensures c.left-open.result c.left-open.ensures _ (c.in-Ok-Ends.is ∙ ap Ok c.in-Ok-Ends.field-0-is) (omega (arith, c.if-open-eq0.false)) in
    (no_more s _ _ _ _ _ l.invariant.0 _ e, l.invariant.1, l.invariant.2)

pub loop-n-smaller-in-Ok-Goes : goal.loop-n-smaller-in-Ok-Goes
loop-n-smaller-in-Ok-Goes c =
    let l = c.loop-n in let a = c in let s = a.args.text.now in let i = c.step_in in
    let e = goes s l.held l.«open» l.outer l.invariant.0.sound i.result i.ensures _ _ (c.in-Ok-Goes.is ∙ ap Ok c.in-Ok-Goes.field-0-is) c.turned-open.result c.turned-open.ensures in
    e.falls

pub loop-n-preserved-in-Ok-Goes : goal.loop-n-preserved-in-Ok-Goes
loop-n-preserved-in-Ok-Goes c =
    let l = c.loop-n in let a = c in let s = a.args.text.now in let i = c.step_in in
    let e = goes s l.held l.«open» l.outer l.invariant.0.sound i.result i.ensures _ _ (c.in-Ok-Goes.is ∙ ap Ok c.in-Ok-Goes.field-0-is) c.turned-open.result c.turned-open.ensures in
    (no_more s _ _ _ _ _ l.invariant.0 _ e, l.invariant.1, l.invariant.2)

pub left-open-requires-in-Ok-Back : goal.left-open-requires-in-Ok-Back
left-open-requires-in-Ok-Back c =
    let l = c.loop-n in (omega (arith, c.if-open-eq0-2.false), omega (arith, sound_depth c.args.text.now l.held l.«open» l.outer l.invariant.0.sound))

pub loop-n-smaller : goal.loop-n-smaller
loop-n-smaller c =
    let l = c.loop-n in let a = c in let s = a.args.text.now in let i = c.step_in in
    let e = backs s l.held l.«open» l.outer l.invariant.0.sound i.result i.ensures c.left-open-in-Ok-Back.result c.left-open-in-Ok-Back.ensures (c.in-Ok-Back.is ∙ ap Ok c.in-Ok-Back.field-0-is) (omega (arith, c.if-open-eq0-2.false)) in
    e.falls

pub loop-n-preserved : goal.loop-n-preserved
loop-n-preserved c =
    let l = c.loop-n in let a = c in let s = a.args.text.now in let i = c.step_in in
    let e = backs s l.held l.«open» l.outer l.invariant.0.sound i.result i.ensures c.left-open-in-Ok-Back.result c.left-open-in-Ok-Back.ensures (c.in-Ok-Back.is ∙ ap Ok c.in-Ok-Back.field-0-is) (omega (arith, c.if-open-eq0-2.false)) in
    (no_more s _ _ _ _ _ l.invariant.0 _ e, l.invariant.1, l.invariant.2)

pub shape_of-file-then-n-most : goal.shape_of-file-then-n-most
shape_of-file-then-n-most c =
    c.loop-n.invariant.2

pub returns-then-n-most : goal.returns-then-n-most
returns-then-n-most c =
    rw (← c.if-n-most.true) c.loop-n.invariant.0

pub shape_of-file-then-open-eq0 : goal.shape_of-file-then-open-eq0
shape_of-file-then-open-eq0 c =
    c.loop-n.invariant.2

pub returns-then-open-eq0 : goal.returns-then-open-eq0
returns-then-open-eq0 c =
    let l = c.loop-n in let a = c in let s = a.args.text.now in let i = c.step_in in
    over s a.args.start _ _ _ _ l.invariant.0 _ l.invariant.1 (lasts s l.held l.«open» l.outer l.invariant.0.sound i.result i.ensures _ (c.in-Ok-Ends.is ∙ ap Ok c.in-Ok-Ends.field-0-is) c.if-open-eq0.true)

pub shape_of-file-then-open-eq0-2 : goal.shape_of-file-then-open-eq0-2
shape_of-file-then-open-eq0-2 c =
    c.loop-n.invariant.2

pub returns-then-open-eq0-2 : goal.returns-then-open-eq0-2
returns-then-open-eq0-2 c =
    let l = c.loop-n in let a = c in let s = a.args.text.now in let i = c.step_in in
    over s a.args.start _ _ _ _ l.invariant.0 _ l.invariant.1 (back_lasts s l.held l.«open» l.outer l.invariant.0.sound i.result i.ensures (c.in-Ok-Back.is ∙ ap Ok c.in-Ok-Back.field-0-is) c.if-open-eq0-2.true)

pub shape_of-file-in-Err : goal.shape_of-file-in-Err
shape_of-file-in-Err c =
    c.loop-n.invariant.2

pub returns-in-Err : goal.returns-in-Err
returns-in-Err c =
    let l = c.loop-n in let a = c in let s = a.args.text.now in let i = c.step_in in
    refused s a.args.start _ _ _ _ l.invariant.0 a.args.most _ (stops s l.held l.«open» l.outer l.invariant.0.sound i.result i.ensures _ c.in-Err.is)
