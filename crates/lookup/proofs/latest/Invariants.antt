-- `lookup::latest` meets its contract: after each record the best is the latest of those passed, and at the end of them all.
use Rattle.file.specs.File.{record_in}
use Rattle.lookup.specs.Force.{asked}
use Rattle.lookup.proofs.Best.{Best, index_of, above_of}
use Rattle.lookup.proofs.latest.Given as goal

abbrev pub invariant-loop-i : goal.invariant-loop-i
invariant-loop-i l = Best (asked l.owner l.kind l.code) (record_in l.file) l.i (index_of l.best) (above_of l.best)
