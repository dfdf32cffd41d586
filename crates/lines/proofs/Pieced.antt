-- What is written piece by piece is written as a whole: the bytes of pieces in a row are their bytes in a row.
use mathlib.Core.Path.{sym}
use mathlib.Core.List.{List, [], ◌∷◌, ◌++◌}
use Rattle.render.specs.Pieces.{Piece, newline, text}
use Rattle.render.proofs.Appended.{text_append}
use Rattle.lines.specs.declared.page.Page.{Page}
use Rattle.lines.specs.Put.{Puts}
use Rattle.lines.proofs.Laws.{puts_as, puts_then}

pub pieces_then : {p q r : Page} (ps qs : List Piece) → Puts p q (text ps) → Puts q r (text qs) → Puts p r (text (ps ++ qs))
pieces_then ps qs v w = puts_as (sym (text_append ps qs)) (puts_then v w)

-- the end of a line
pub line_ends : {p q : Page} → Puts p q (10 ∷ []) → Puts p q (text (newline ∷ []))
unfolding text
line_ends w = w
