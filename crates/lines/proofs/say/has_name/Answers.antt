-- `lines::say::has_name` meets its contract: a part has bytes where it is to have some and starts before the end.
use Prim.Native.Nat.{ℕ, zero, suc}
use mathlib.Core.Path.{◌≡◌, refl}
use mathlib.Core.Bool.{Bool, true, false, not, ◌&&◌}
use mathlib.Core.List.{List}
use borrow.Author.Tests.{lt-ltb, ltb-true, ltb-false}
use native.Mathlib.Omega.{arith}
use lib.Dec.{ltb}
use lib.ListN.{length, take, drop, drop_of_length-le}
use lib.Seq.{drop-cons}
use Rattle.grammar.specs.Engine.{empty}
use Rattle.lines.proofs.say.has_name.Goals as goal

part : (n i : ℕ) (s : List ℕ) → (ltb 0 n && ltb i (length s)) ≡ not (empty (take n (drop i s)))
unfolding empty
part zero i s = refl
part (suc n) i s = rw (lt-ltb 0 (suc n) (omega arith)) (go (ltb i (length s)) refl)
  where
    go : (b : Bool) → ltb i (length s) ≡ b → b ≡ not (empty (take (suc n) (drop i s)))
    go true e = rw (drop-cons s i 0 (ltb-true i (length s) e))
    go false e = rw (drop_of_length-le s (ltb-false i (length s) e))

pub returns : goal.returns
returns c =
    part c.args.len c.args.start c.args.text.now
