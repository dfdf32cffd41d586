-- `next_name` meets its contract: a space, and the token, which is of the same text.
use mathlib.Core.Path.{ap}
use Rattle.parser.specs.Kept.{name_in}
use Rattle.lines.specs.Said.{name_said}
use Rattle.lines.proofs.Laws.{puts_as}
use Rattle.lines.proofs.Tokens.{put_next}
use Rattle.lines.proofs.page.Page.next_name.Goals as goal

pub returns : goal.returns
returns c =
    let a = c.args in
    put_next (name_said (name_in a.self.now.text.now a.start a.len)) c.put_byte.ensures (puts_as (ap (λ s. name_in s a.start a.len) c.put_byte.ensures.of) c.put_part.ensures)
