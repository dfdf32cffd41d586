-- `parser::value::to_first_key` meets its contract: the number of the key word taken, if a value of the kind begins with it.
use Rattle.grammar.specs.Engine.{item}
use Rattle.parser.proofs.Begins.{flatly_either}
use Rattle.parser.proofs.Exits.{handed_on}
use Rattle.parser.proofs.value.to_first_key.Goals as goal

pub returns-in_err-w : goal.returns-in_err-w
unfolding item
returns-in_err-w c f b o h e =
    rw (handed_on _ _ c.from_residual.ensures.1, ← (c.in_err-w.ensures o h))

pub returns : goal.returns
unfolding item
returns c f b o h e =
    let a = c in
    rw (c.begun.ensures _ b, e, ← (c.in_ok-w.ensures o h), ← c.begins.ensures, flatly_either)
