-- `lower` meets its contract: the entries rise, so what is known of one position is known of all.
use Rattle.std.proofs.Common.{rules}
use Rattle.entry.specs.Entries.{entry_in}
use Rattle.entry.specs.Order.{key}
use Rattle.indexer.proofs.Bracket.{lower_at}
use Rattle.indexer.proofs.search.Front.lower.Goals as goal

pub returns : goal.returns
returns c =
    let f = c.args.self.now in
    let e = c.partition_point.ensures in
    lower_at f.text.now (entry_in f.index.now) f.n f.rises (key c.args.owner c.args.name.now c.args.at) _ e.within (search rules) (search rules)
