-- `write_record` meets its contract: blocks end, the line of the options ends, and the record is stated and entered.
use mathlib.Core.Path.{ap, ◌∙◌}
use Rattle.parser.specs.Kept.{frame_of}
use Rattle.render.specs.Plain.{bare}
use Rattle.render.specs.Lines.{form_in}
use Rattle.lines.specs.Stated.{stated_in}
use Rattle.lines.proofs.Laws.{puts_as}
use Rattle.writer.proofs.Writing.{stating_in, entering_in, record_written}
use Rattle.writer.proofs.pen.write_record.Goals as goal

pub write_statement-requires : goal.write_statement-requires
write_statement-requires c =
    let a = c.args in
    let s = a.page.now.text.now in
    let e = c.reach_owner-owner.ensures in
    let d = c.settle-taken.ensures s in
    let t = d.put.of ∙ e.ended.put.of in
    let z = stating_in s a.o a.outer.now a.r _ _ _ e _ _ d in
    (z.0, ap (λ u. form_in (frame_of u c.settle-taken.result.«open».inner) (bare u a.r)) t ∙ z.1)

pub entered-requires : goal.entered-requires
entered-requires c =
    let a = c.args in
    let s = a.page.now.text.now in
    entering_in s a.o a.outer.now a.r _ _ _ c.reach_owner-owner.ensures _ _ (c.settle-taken.ensures s)

pub returns : goal.returns
returns c =
    let a = c.args in
    let s = a.page.now.text.now in
    let e = c.reach_owner-owner.ensures in
    let d = c.settle-taken.ensures s in
    let h = c.settle-taken.result.«open» in
    let t = d.put.of ∙ e.ended.put.of in
    record_written s a.o a.outer.now a.r _ _ _ e _ _ d _ _ _ (puts_as (ap (λ u. stated_in u h.depth (frame_of u h.inner) a.r) t) c.write_statement.ensures) (c.entered.ensures s)
