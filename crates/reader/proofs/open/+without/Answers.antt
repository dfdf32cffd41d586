-- `reader::open::without` meets its contract: none, the first, or one of the later kinds.
use native.Mathlib.Omega.{arith}
use Rattle.reader.proofs.Lacking.{by_none, by_first, by_later}
use Rattle.reader.proofs.open.+without.Goals as goal

pub returns-then-lacks-lt256-clause-of : goal.returns-then-lacks-lt256-clause-of
returns-then-lacks-lt256-clause-of t c = (by_none _ _ c.if-lacks-lt256.true).0

pub returns-then-lacks-kind-clause-of : goal.returns-then-lacks-kind-clause-of
returns-then-lacks-kind-clause-of t c = (by_first _ _ (omega arith) c.if-lacks-lt256.false c.if-lacks-kind.true).0

pub returns-clause-of : goal.returns-clause-of
returns-clause-of t c = (by_later _ _ (omega arith) c.if-lacks-lt256.false c.if-lacks-kind.false _ (c.without.ensures.of, c.without.ensures.some)).0
