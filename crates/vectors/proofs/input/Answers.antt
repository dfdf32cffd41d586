-- `vectors::input` is as many zeros as its type says, and its length is that by the law on the length of a repetition.
use mathlib.Core.Path.{refl, sym}
use Prim.Native.Nat.{ℕ}
use lib.ListN.{length-replicate}
use Rattle.vectors.proofs.input.Goals as goal

pub returns : goal.returns
returns c =
    record { eq = refl; size = sym (length-replicate {A = ℕ} 1048576 0) }
