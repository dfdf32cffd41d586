-- What holds of all the blocks by one computation holds of each of them, so that no other proof goes through the blocks by hand.
use Prim.Native.Nat.{ℕ, zero, suc, ◌<◌}
use mathlib.Core.Path.{◌≡◌}
use mathlib.Core.Bool.{Bool, true}
use mathlib.Core.List.{List, [], ◌∷◌, map}
use native.Mathlib.Omega.{arith}
use lib.ListN.{length, get_or}
use Rattle.grammar.specs.Grammar.{Block, blocks, Library, Units, Site, Symmetry, Macro, Pin, Port, Obs, Options, Layer, Rect, Polygon, Path, Body}
use Rattle.grammar.specs.Table.{body}

module _ {A : Type 0} (f g : Block → A) where
  -- f and g agree on every block of a list
  abbrev Agree : List Block → Type 0
  Agree bs = map f bs ≡ map g bs

  nth : (bs : List Block) → Agree bs → (n : ℕ) → n < length bs → f (get_or bs n Library) ≡ g (get_or bs n Library)
  nth [] t n h = absurd (omega arith)
  nth (b ∷ bs) t zero h = cc t
  nth (b ∷ bs) t (suc n) h = let tails : Agree bs = cc t in nth bs tails n (omega arith)

  pub alike : Agree blocks → (b : Block) → f b ≡ g b
  alike t Library = nth blocks t 0 (omega arith)
  alike t Units = nth blocks t 1 (omega arith)
  alike t Site = nth blocks t 2 (omega arith)
  alike t Symmetry = nth blocks t 3 (omega arith)
  alike t Macro = nth blocks t 4 (omega arith)
  alike t Pin = nth blocks t 5 (omega arith)
  alike t Port = nth blocks t 6 (omega arith)
  alike t Obs = nth blocks t 7 (omega arith)
  alike t Options = nth blocks t 8 (omega arith)
  alike t Layer = nth blocks t 9 (omega arith)
  alike t Rect = nth blocks t 10 (omega arith)
  alike t Polygon = nth blocks t 11 (omega arith)
  alike t Path = nth blocks t 12 (omega arith)

-- a test of the block
pub each_block : (f : Block → Bool) → Agree f (λ b. true) blocks → (b : Block) → f b ≡ true
each_block f t = alike f (λ b. true) t

-- and one of its body
pub at_block : (f : Body → Bool) → Agree (λ b. f (body b)) (λ b. true) blocks → (b : Block) → f (body b) ≡ true
at_block f t = each_block (λ b. f (body b)) t
