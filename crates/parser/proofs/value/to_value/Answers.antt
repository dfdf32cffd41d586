-- `parser::value::to_value` meets its contract: the code of the word, by the kind of the record, is a byte.
use Prim.Native.Nat.{◌%◌}
use mathlib.Core.Path.{◌≡◌}
use native.Mathlib.Omega.{arith}
use Rattle.grammar.specs.Engine.{item}
use Rattle.parser.proofs.Exits.{handed_on}
use Rattle.parser.proofs.value.to_value.Goals as goal

pub returns-in_err-code : goal.returns-in_err-code
unfolding item
returns-in_err-code c f b o h e =
    rw (handed_on _ _ c.from_residual.ensures.1, e, ← (c.in_err-code.ensures o h))

pub returns : goal.returns
unfolding item
returns c f b o h e =
    let n = c.in_ok-code.code in
    let u : n % 256 ≡ n = omega arith in
    rw (e, ← (c.in_ok-code.ensures o h), u)
