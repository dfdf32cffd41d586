-- `parser::engine::record_of` meets its contract: the owner, and the bytes of the name that the text has.
use Prim.Native.Nat.{◌+◌}
use mathlib.Core.Path.{◌≡◌}
use mathlib.Core.List.{[]}
use native.Mathlib.Omega.{arith}
use Rattle.parser.proofs.engine.record_of.Goals as goal

pub returns : goal.returns
returns c =
    let g = c.args in
    let n : g.d.name + 0 ≡ g.d.name = omega arith in
    rw (c.of.ensures, c.part.ensures, c.owner_of.ensures [], n)
