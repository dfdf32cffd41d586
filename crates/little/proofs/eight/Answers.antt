-- `little::eight` meets its contract: eight bytes are twice four.
use native.Mathlib.Omega.{arith}
use Rattle.little.proofs.Steps.{eight_bytes}
use Rattle.little.proofs.eight.Goals as goal

pub returns : goal.returns
returns c =
    omega (arith, eight_bytes c.args.bytes.now c.args.place)
