-- What a record does to the open blocks, by the number that says it.
use Prim.Native.Nat.{ℕ, ◌/◌, ◌%◌}
use mathlib.Core.Path.{◌≡◌, refl, sym, ap}
use mathlib.Core.Bool.{Bool, true, false, not, cond, ◌&&◌, false≢true}
use mathlib.Core.List.{List, [], ◌∷◌}
use native.Mathlib.Omega.{arith}
use borrow.Author.Tests.{eq-eqb, ne_eqb}
use lib.Dec.{eqb}
use Rattle.grammar.specs.Grammar.{Block, Library, Move, stay, enter, named, version}
use Rattle.grammar.specs.Engine.{none, some, Frame as Opened}
use Rattle.grammar.specs.Turns as T
use Rattle.rows.specs.Packed.{block_of, kinds_of, move_of}
use Rattle.parser.specs.declared.open.Frame.{Frame}
use Rattle.parser.specs.Kept.{name_in, frame_of}
use Rattle.reader.specs.Open.{Pushes, Inside, Opens}

-- BY THE NUMBER

is_named : (m : ℕ) → m % 8 ≡ 3 → move_of m ≡ named (block_of (m / 8 % 32)) (kinds_of (m / 256))
unfolding move_of
is_named m e = rw (ne_eqb (m % 8) 1 (λ z. omega (arith, e, z)), eq-eqb (m % 8) 3 e)

pub is_version : (m : ℕ) → m % 8 ≡ 2 → move_of m ≡ version
unfolding move_of
is_version m e = rw (ne_eqb (m % 8) 1 (λ z. omega (arith, e, z)), ne_eqb (m % 8) 3 (λ z. omega (arith, e, z)), eq-eqb (m % 8) 2 e)

-- THE BLOCK THAT IS OPENED

-- a block that is not the library has a place
pub placed : (b p : ℕ) → (block_of b ≡ Library → ⊥) → cond (eqb b 0) none (some p) ≡ some p
unfolding block_of
placed b p h = rw (ne_eqb b 0 (λ e. h (ap block_of e)))

module _ (s : List ℕ) (m : ℕ) (f : Frame) (b : f.block ≡ m / 8 % 32) (l : f.lacks ≡ m / 256) where
  shown : (label : List ℕ) → name_in s f.title f.len ≡ label → (block_of (m / 8 % 32) ≡ Library → ⊥) → frame_of s f ≡ T.opened (block_of (m / 8 % 32)) f.at label (kinds_of (m / 256))
  shown label n h = rw (b, l, n, placed (m / 8 % 32) f.at h)

  pub opens_named : m % 8 ≡ 3 → Inside (move_of m) → Opens (move_of m) f.at (name_in s f.title f.len) (frame_of s f)
  opens_named e i = rw (is_named m e) (shown (name_in s f.title f.len) refl (rw (is_named m e) at i))

  pub opens_other : (m % 8 ≡ 3 → ⊥) → name_in s f.title f.len ≡ [] → (label : List ℕ) → Inside (move_of m) → Opens (move_of m) f.at label (frame_of s f)
  unfolding move_of
  opens_other e n label = go (eqb (m % 8) 1) (eqb (m % 8) 2) (ne_eqb (m % 8) 3 e)
    where
      go : (a c : Bool) {d : Bool} → d ≡ false
          → (let mv = cond a (enter (block_of (m / 8 % 32)) (kinds_of (m / 256))) (cond d (named (block_of (m / 8 % 32)) (kinds_of (m / 256))) (cond c version stay)) in
          Inside mv → Opens mv f.at label (frame_of s f))
      go true c q = shown [] n
      go false true q = rw q (λ i. tt)
      go false false q = rw q (λ i. tt)

-- THE OPEN BLOCKS AFTER A RECORD

-- the test for neither of the two
pub stays : (m : ℕ) → (not (eqb (m % 8) 1) && not (eqb (m % 8) 3)) ≡ true → (m % 8 ≡ 2 → ⊥) → move_of m ≡ stay
unfolding move_of
stays m t e = go (eqb (m % 8) 1) (eqb (m % 8) 3) _ _ t (ne_eqb (m % 8) 2 e)
  where
    go : (a c : Bool) (x y : Move) {d : Bool} → (not a && not c) ≡ true → d ≡ false → cond a x (cond c y (cond d version stay)) ≡ stay
    go true c x y q e = absurd (false≢true q)
    go false true x y q e = absurd (false≢true q)
    go false false x y q e = rw e

pub pushes : (m : ℕ) → (not (eqb (m % 8) 1) && not (eqb (m % 8) 3)) ≡ false → Pushes (move_of m)
unfolding move_of
pushes m t = go (eqb (m % 8) 1) (eqb (m % 8) 3) (block_of (m / 8 % 32)) (kinds_of (m / 256)) (cond (eqb (m % 8) 2) version stay) t
  where
    go : (a c : Bool) (b : Block) (ks : List ℕ) (z : Move) → (not a && not c) ≡ false → Pushes (cond a (enter b ks) (cond c (named b ks) z))
    go true c b ks z q = tt
    go false true b ks z q = tt
    go false false b ks z q = absurd (false≢true (sym q))

pub shifted : (mv : Move) → Pushes mv → (k p : ℕ) (label : List ℕ) (x v : ℕ) (f g : Opened ℕ) (fs : List (Opened ℕ)) → Opens mv p label g
    → T.state v (g ∷ T.counting k f ∷ fs) ≡ T.shift mv k p label x v f fs
shifted stay h k p label x v f g fs o = absurd h
shifted (enter b ks) h k p label x v f g fs o = ap (λ q. T.state v (q ∷ T.counting k f ∷ fs)) o
shifted (named b ks) h k p label x v f g fs o = ap (λ q. T.state v (q ∷ T.counting k f ∷ fs)) o
shifted version h k p label x v f g fs o = absurd h
