-- `rowfile::swap` meets its contract: the bytes exchanged so far, and the rest of both rows laid on from there, come to the rows exchanged.
use Prim.Native.Nat.{ℕ, ◌+◌, ◌-◌, ◌*◌, ◌≤◌, ◌<◌}
use mathlib.Core.Path.{◌≡◌}
use lib.ListN.{length, drop, get_or}
use lib.Seq.{sets}
use Rattle.rowfile.specs.Rows.{row_at}
use Rattle.rowfile.proofs.swap.Given as goal

abbrev pub invariant-loop-k : goal.invariant-loop-k
invariant-loop-k l = (l.k ≤ l.width) × (length l.file ≡ length l.initial.file) × (l.width * l.i + l.width ≤ l.width * l.j) × (l.width * l.j + l.width ≤ length l.initial.file)
    × ((m : ℕ) → l.k ≤ m → m < l.width → (get_or l.file (l.width * l.i + m) 0 ≡ get_or l.initial.file (l.width * l.i + m) 0) × (get_or l.file (l.width * l.j + m) 0 ≡ get_or l.initial.file (l.width * l.j + m) 0))
    × (sets (sets l.file (l.width * l.i + l.k) (drop l.k (row_at l.width l.initial.file l.j))) (l.width * l.j + l.k) (drop l.k (row_at l.width l.initial.file l.i))
    ≡ sets (sets l.initial.file (l.width * l.i) (row_at l.width l.initial.file l.j)) (l.width * l.j) (row_at l.width l.initial.file l.i))
