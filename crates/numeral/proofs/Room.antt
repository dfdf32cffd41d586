-- A text laid where there is room stands at its place, and the rest of the buffer is as it was.
use Prim.Native.Nat.{ℕ, ◌+◌, ◌≤◌}
use mathlib.Core.Path.{◌≡◌}
use mathlib.Core.List.{List, ◌++◌}
use lib.ListN.{length, take, drop}
use lib.Seq.{sets-eq}
use borrow.Author.Tests.{le-leb}
use Rattle.numeral.specs.Laid.{laid}

pub laid_between : (out : List ℕ) (at : ℕ) (text : List ℕ) → at + length text ≤ length out
    → laid out at text ≡ take at out ++ text ++ drop (at + length text) out
laid_between out at text h = simp (le-leb (at + length text) (length out) h) (sets-eq text out at h)
