-- `scan` meets its contract: the first i records of the file are scanned.
use mathlib.Core.Path.{◌≡◌}
use lib.ListN.{length}
use Rattle.file.specs.File.{record_in}
use Rattle.checker.specs.Windows.{Scanned}
use Rattle.checker.proofs.window.scan.Given as goal

abbrev pub invariant-loop-i : goal.invariant-loop-i
invariant-loop-i l = (length l.marks ≡ length l.initial.marks) × Scanned (record_in l.file) (record_in l.w) l.low l.high l.c l.marks l.i
