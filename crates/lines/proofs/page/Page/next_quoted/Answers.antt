-- `next_quoted` meets its contract: a space, and the part of the same text between its quotes.
use mathlib.Core.Path.{ap, ◌∙◌}
use Rattle.parser.specs.Kept.{name_in}
use Rattle.render.specs.Says.{quoted}
use Rattle.lines.proofs.Laws.{puts_as, puts_then}
use Rattle.lines.proofs.Tokens.{put_next}
use Rattle.lines.proofs.page.Page.next_quoted.Goals as goal

pub returns : goal.returns
returns c =
    let a = c.args in
    put_next (quoted (name_in a.self.now.text.now a.start a.len)) c.put_byte.ensures
    (puts_then c.put_byte-2.ensures
    (puts_then (puts_as (ap (λ s. name_in s a.start a.len) (c.put_byte-2.ensures.of ∙ c.put_byte.ensures.of)) c.put_part.ensures) c.put_byte-3.ensures))
