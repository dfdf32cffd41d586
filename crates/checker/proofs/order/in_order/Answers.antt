-- `in_order` meets its contract: the stretch has room for its records.
use native.Mathlib.Omega.{arith}
use Rattle.checker.specs.Passing.{stretch, stretch_bytes}
use Rattle.checker.proofs.Judging.{room36}
use Rattle.checker.proofs.order.in_order.Goals as goal

pub stretches-requires : goal.stretches-requires
stretches-requires c =
    let s = c in (room36 stretch_bytes stretch 0 (omega arith), s.requires)

pub returns : goal.returns
returns c =
    c.stretches.ensures
