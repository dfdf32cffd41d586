-- What all of a list satisfies its parts and its members satisfy: each by recursion.
use Prim.Native.Nat.{ℕ, zero, suc}
use mathlib.Core.Path.{◌≡◌, refl}
use mathlib.Core.Bool.{Bool, true}
use mathlib.Core.List.{List, [], ◌∷◌, ◌++◌, Memᴰ}
use lib.ListN.{take, drop}
use Rattle.word.proofs.Words.{both}
use Rattle.render.specs.Spelt.{all}

module _ {B : Type 0} (p : B → Bool) where
  pub all_append : (s t : List B) → all p s ≡ true → all p t ≡ true → all p (s ++ t) ≡ true
  unfolding all
  all_append [] t e f = f
  all_append (b ∷ s) t e f = let (x, y) = both (p b) (all p s) e in rw x (all_append s t y f)

  pub all_take : (n : ℕ) (s : List B) → all p s ≡ true → all p (take n s) ≡ true
  unfolding all
  all_take zero s e = refl
  all_take (suc n) [] e = refl
  all_take (suc n) (b ∷ s) e = let (x, y) = both (p b) (all p s) e in rw x (all_take n s y)

  pub all_drop : (n : ℕ) (s : List B) → all p s ≡ true → all p (drop n s) ≡ true
  unfolding all
  all_drop zero s e = e
  all_drop (suc n) [] e = refl
  all_drop (suc n) (b ∷ s) e = all_drop n s (both (p b) (all p s) e).1

pub all_member : {B : Type 0} (p : B → Bool) {b : B} {l : List B} → Memᴰ b l → all p l ≡ true → p b ≡ true
unfolding all
all_member p (Memᴰ.head {x = z} {xs = l} e) h = rw e (both (p z) (all p l) h).0
all_member p (Memᴰ.tail {x = z} {xs = l} m) h = all_member p m (both (p z) (all p l) h).1

-- what holds of everything
pub all_true : {B : Type 0} (l : List B) → all (λ b. true) l ≡ true
unfolding all
all_true [] = refl
all_true (b ∷ l) = all_true l
