-- What falls is the `at` of the record: a record's owner begins earlier in the text.
use Rattle.file.specs.File.{record_in}
use Rattle.lookup.proofs.+climb.Given as goal

abbrev pub decreases-climb : goal.decreases-climb
decreases-climb l = (record_in l.lent.now.now l.index).at
