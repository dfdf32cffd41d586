-- What falls is the number of kinds, taken byte by byte.
use Rattle.reader.proofs.open.+without.Given as goal

abbrev pub decreases-without : goal.decreases-without
decreases-without l = l.lacks
