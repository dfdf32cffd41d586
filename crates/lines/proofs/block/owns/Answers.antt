-- `lines::block::owns` meets its contract: the library by its mark, another block by its place.
use Prim.Native.Nat.{ℕ}
use mathlib.Core.Path.{◌≡◌, refl}
use mathlib.Core.Bool.{Bool, true, false, cond, not, ◌&&◌}
use borrow.Author.Tests.{eq-eqb, ne_eqb}
use lib.Dec.{eqb}
use Rattle.record.specs.Made.{library}
use Rattle.grammar.specs.Engine.{none, some}
use Rattle.render.specs.Plain.{owner_of}
use Rattle.render.specs.Lines.{same}
use Rattle.lines.proofs.block.owns.Goals as goal

of_library : (p : ℕ) → eqb p library ≡ same none (owner_of p)
of_library p = go (eqb p library)
  where
    go : (b : Bool) → b ≡ same none (cond b none (some p))
    go true = refl
    go false = refl

of_block : (place p : ℕ) → not (eqb p library) && eqb place p ≡ same (some place) (owner_of p)
of_block place p = go (eqb p library)
  where
    go : (b : Bool) → not b && eqb place p ≡ same (some place) (cond b none (some p))
    go true = refl
    go false = refl

pub returns-then-f-eq-LIBRARY : goal.returns-then-f-eq-LIBRARY
returns-then-f-eq-LIBRARY c s =
    rw (eq-eqb _ 0 c.if-f-eq-LIBRARY.true, c.owner-owner.ensures) (of_library c.args.r.owner)

pub returns : goal.returns
returns c s =
    rw (ne_eqb _ 0 c.if-f-eq-LIBRARY.false, c.owner-owner.ensures) (of_block c.args.f.at c.args.r.owner)
