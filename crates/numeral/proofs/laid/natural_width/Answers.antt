-- `numeral::laid::natural_width` meets its contract: a number has a digit more than its logarithm.
use mathlib.Core.Path.{sym}
use Rattle.numeral.proofs.Short.{natural_many}
use Rattle.numeral.proofs.laid.natural_width.Goals as goal

pub returns : goal.returns
returns c =
    let e = c.ilog10.ensures in
    sym (natural_many c.args.n c.max.result c.ilog10.result c.max.ensures e.power_le e.next_power_gt e.bound)
