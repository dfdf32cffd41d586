-- `start` meets its contract: the word after a space, or after its indent.
use mathlib.Core.Path.{sym, ◌∙◌}
use Rattle.lines.proofs.Stated.{no_start, on_start, off_start}
use Rattle.lines.proofs.page.Page.start.Goals as goal
use Rattle.lines.proofs.page.Page.start.Goals.{then-on_line, else-on_line}

pub returns-after-on_line : goal.returns-after-on_line
returns-after-on_line c =
    let a = c.args in
    let g = c.on_line.ensures in
    elim c.if-on_line.branch [
      | then-on_line w ↦ on_start _ a.depth a.word c.if-word-ne0.true (sym g ∙ w.if-on_line.true) w.begin-is c.begin.ensures
      | else-on_line w ↦ off_start _ a.depth a.word c.if-word-ne0.true (sym g ∙ w.if-on_line.false) w.begin-is c.begin.ensures
    ]

pub returns-else-word-ne0 : goal.returns-else-word-ne0
returns-else-word-ne0 c =
    no_start c.args.self.now _ _ c.if-word-ne0.false
