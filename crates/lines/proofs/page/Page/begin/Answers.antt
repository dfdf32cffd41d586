-- `begin` meets its contract: the spaces, and the word.
use Rattle.lines.proofs.Laws.{puts_then}
use Rattle.lines.proofs.page.Page.begin.Goals as goal

pub returns : goal.returns
returns c =
    puts_then c.put_spaces.ensures c.put_word.ensures
