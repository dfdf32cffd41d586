-- `indexer::fill::entered_in` meets its contract: a file has no more entries than bytes.
use mathlib.Core.Logic.{inl}
use native.Mathlib.Omega.{arith}
use Rattle.indexer.proofs.Filling.{left_few}
use Rattle.indexer.proofs.fill.entered_in.Goals as goal

pub count-requires-clause-fits : goal.count-requires-clause-fits
count-requires-clause-fits c = inl (omega (arith, left_few c.args.records.now))
