-- A token of a line, as it is put: after a space.
use mathlib.Core.List.{[], ◌∷◌, append-nil}
use Rattle.render.specs.Pieces.{Said, text}
use Rattle.render.specs.Lines.{spaced}
use Rattle.lines.specs.declared.page.Page.{Page}
use Rattle.lines.specs.Put.{Puts}
use Rattle.lines.proofs.Laws.{puts_then}

pub put_next : {p q r : Page} (t : Said) → Puts p q (32 ∷ []) → Puts q r t.bytes → Puts p r (text (spaced (t ∷ [])))
unfolding text spaced
put_next t v w = rw append-nil (puts_then v w)
