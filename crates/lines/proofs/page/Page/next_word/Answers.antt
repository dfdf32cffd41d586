-- `next_word` meets its contract: a space, and the token.
use Rattle.lines.proofs.Tokens.{put_next}
use Rattle.lines.proofs.page.Page.next_word.Goals as goal

pub returns : goal.returns
returns c =
    put_next _ c.put_byte.ensures c.put_word.ensures
