-- `lines::say::key_in` meets its contract: the key words come first, and a greater number has none.
use Rattle.lines.proofs.Spelt.{key_spelt, key_past}
use Rattle.lines.proofs.say.key_in.Goals as goal

pub returns-then-k : goal.returns-then-k
returns-then-k c =
    key_past _ c.if-k.true

pub returns-else-k : goal.returns-else-k
returns-else-k c =
    key_spelt _ c.if-k.false
