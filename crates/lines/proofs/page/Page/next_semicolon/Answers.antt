-- `next_semicolon` meets its contract: a space, and the token.
use Rattle.render.specs.Says.{semicolon}
use Rattle.lines.proofs.Tokens.{put_next}
use Rattle.lines.proofs.page.Page.next_semicolon.Goals as goal

pub returns : goal.returns
returns c =
    put_next semicolon c.put_byte.ensures c.put_byte-2.ensures
