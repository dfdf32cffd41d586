-- `say_all` meets its contract: what is put of the items so far is completed by what the items that are left say.
use Prim.Native.Nat.{◌≤◌}
use mathlib.Core.Path.{◌≡◌}
use Rattle.parser.specs.Kept.{frame_of}
use Rattle.rows.specs.Packed.{items_of}
use Rattle.render.specs.Pieces.{text as bytes_of}
use Rattle.render.specs.Plain.{bare}
use Rattle.render.specs.Says.{says_all}
use Rattle.render.specs.Lines.{spaced}
use Rattle.lines.specs.declared.page.Page.{Page}
use Rattle.lines.specs.Put.{Puts}
use Rattle.lines.proofs.page.Page.say_all.Given as goal

abbrev pub invariant-loop-left : goal.invariant-loop-left
invariant-loop-left l = record {
  fewer : l.left ≤ l.items;
  text : l.self.text.now ≡ l.initial.self.text.now;
  within : l.self.out.ghost_name ≡ l.initial.self.out.ghost_name;
  rest : (p : Page)
      → Puts l.self p (bytes_of (spaced (says_all 0 (frame_of l.initial.self.text.now l.f).label (items_of l.left) (bare l.initial.self.text.now l.r))))
      → Puts l.initial.self p (bytes_of (spaced (says_all 0 (frame_of l.initial.self.text.now l.f).label (items_of l.items) (bare l.initial.self.text.now l.r))));
}

abbrev pub decreases-loop-left : goal.decreases-loop-left
decreases-loop-left l = l.left
