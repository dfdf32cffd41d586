-- `lower` meets its contract: `at` rises, so what is known of one index is known of all.
use Rattle.std.proofs.Common.{rules}
use Rattle.checker.proofs.Scanning.{lower_at}
use Rattle.checker.proofs.window.lower.Goals as goal

pub returns : goal.returns
returns c =
    lower_at c.requires.1 c.partition_point.result c.partition_point.ensures.within (search rules) (search rules)
