-- `reader::open::left` meets its contract: the last of those around is the innermost then.
use mathlib.Core.Path.{ap}
use Rattle.grammar.specs.Turns as T
use Rattle.reader.proofs.Stack.{outermost_off}
use Rattle.reader.proofs.open.left.Goals as goal

pub returns : goal.returns
returns c s =
    let a = c.args in ap (T.state a.o.version) (outermost_off s a.o.depth a.outer.now c.requires.0)
