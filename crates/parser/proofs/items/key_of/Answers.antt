-- `parser::items::key_of` meets its contract: the key words have the numbers from 1 on, and past them there is none.
use native.Mathlib.Omega.{arith}
use Rattle.rows.proofs.Ranges.{key_number, past_number}
use Rattle.parser.proofs.items.key_of.Goals as goal

pub returns-then-it : goal.returns-then-it
returns-then-it c h =
    past_number _ (omega arith)

pub returns : goal.returns
returns c h =
    key_number _ (omega arith)
