-- `reader::pass::pass` meets its contract: every turn keeps what is read in all, and takes a token or leaves a block.
use Prim.Native.Nat.{◌≤◌}
use mathlib.Core.Path.{◌≡◌}
use lib.ListN.{length}
use Rattle.reader.specs.Passed.{Further}
use Rattle.reader.proofs.Turning.{now}
use Rattle.reader.proofs.Tally.{left}
use Rattle.reader.proofs.pass.pass.Given as goal

-- the records so far, at most as many as are asked for; and the file's length
abbrev pub invariant-loop-n : goal.invariant-loop-n
invariant-loop-n l = Further l.text (now l.initial.held l.initial.open l.initial.outer) l.initial.file l.n (now l.held l.«open» l.outer) l.file × (l.n ≤ l.most) × (length l.file ≡ length l.initial.file)

abbrev pub decreases-loop-n : goal.decreases-loop-n
decreases-loop-n l = left l.text l.held l.«open».depth
