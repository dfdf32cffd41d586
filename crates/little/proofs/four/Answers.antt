-- `little::four` meets its contract: the number of four bytes is their sum, each by its weight.
use native.Mathlib.Omega.{arith}
use Rattle.little.proofs.Steps.{four_bytes}
use Rattle.little.proofs.four.Goals as goal

pub returns-clause-eq : goal.returns-clause-eq
returns-clause-eq c =
    omega (arith, four_bytes c.args.bytes.now c.args.place)
