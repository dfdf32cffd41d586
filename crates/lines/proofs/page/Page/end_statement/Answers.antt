-- `end_statement` meets its contract: the semicolon, and the end of the line.
use Rattle.lines.proofs.Pieced.{pieces_then, line_ends}
use Rattle.lines.proofs.page.Page.end_statement.Goals as goal

pub returns : goal.returns
returns c =
    pieces_then _ _ c.next_semicolon.ensures (line_ends c.end_line.ensures)
