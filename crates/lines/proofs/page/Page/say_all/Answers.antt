-- `say_all` meets its contract: what is put of the items so far is completed by what the items that are left say.
use Prim.Native.Nat.{◌%◌}
use mathlib.Core.Path.{ap, ◌∙◌}
use native.Mathlib.Omega.{arith}
use Rattle.parser.specs.Kept.{frame_of}
use Rattle.rows.specs.Packed.{item_at}
use Rattle.render.specs.Pieces.{text}
use Rattle.render.specs.Plain.{bare}
use Rattle.render.specs.Says.{says}
use Rattle.render.specs.Lines.{spaced}
use Rattle.lines.proofs.Laws.{puts_none, puts_as}
use Rattle.lines.proofs.Items.{turn, none_said, left_of}
use Rattle.lines.proofs.page.Page.say_all.Goals as goal

pub loop-left-preserved : goal.loop-left-preserved
loop-left-preserved c =
    let a = c.args in
    let l = c.loop-left in
    let i = l.invariant in
    let s = a.self.now.text.now in
    let w = c.say.ensures in
    record {
      fewer = omega (arith, c.after-left.ensures.less);
      text = w.of ∙ i.text;
      within = w.within ∙ i.within;
      rest = λ p v. i.rest p (turn (frame_of s a.f).label (bare s a.r) l.left c.after-left.result (omega arith) c.loop-left-test.true
          (left_of a.r l.left c.after-left.result (w.of ∙ i.text) c.after-left.ensures.of)
          (puts_as (ap (λ t. text (spaced (says (frame_of t a.f).label (bare t a.r) (item_at (l.left % 256))))) i.text) w) p v);
    }

pub returns : goal.returns
returns c =
    let a = c.args in
    let l = c.loop-left in
    let s = a.self.now.text.now in
    l.invariant.rest _ (puts_as (none_said (frame_of s a.f).label (bare s a.r) c.loop-left-test.false) (puts_none l.self))
