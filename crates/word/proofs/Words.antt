-- Lists of bytes compared and raised: the comparison decides equality, and raising goes byte by byte.
use Prim.Native.Nat.{ℕ, zero, suc, ◌+◌, ◌-◌, ◌<◌}
use mathlib.Core.Path.{◌≡◌, refl, sym, ap}
use mathlib.Core.Bool.{Bool, true, false, cond, ◌&&◌}
use mathlib.Core.List.{List, [], ◌∷◌}
use native.Mathlib.Numerals.{add-one}
use native.Mathlib.Omega.{arith}
use lib.Dec.{leb, eqb}
use lib.ListN.{length, take, drop, get_or}
use lib.Seq.{drop-cons}
use borrow.Author.Tests.{eq-eqb, ne_eqb, eqb-true}
use Rattle.word.specs.Words.{raised, upper, same}

pub clash : {A : Type 0} → true ≡ false → A
clash e = absurd (let z : ◌≡◌ {A = ℕ} 0 1 = cc in omega arith)

pub both : (a b : Bool) → (a && b) ≡ true → (a ≡ true) × (b ≡ true)
both true b e = (refl, e)
both false b e = clash (sym e)

pub same_eq : (s t : List ℕ) → same s t ≡ true → s ≡ t
unfolding same
same_eq [] [] e = refl
same_eq [] (b ∷ t) e = clash (sym e)
same_eq (a ∷ s) [] e = clash (sym e)
same_eq (a ∷ s) (b ∷ t) e =
    let h = both (eqb a b) (same s t) e in
    cc (eqb-true a b h.0, same_eq s t h.1)

pub same_refl : (s : List ℕ) → same s s ≡ true
unfolding same
same_refl [] = refl
same_refl (a ∷ s) = rw (eq-eqb a a refl, same_refl s)

-- lists of other lengths are not the same
pub other_length : (s t : List ℕ) → (length s ≡ length t → ⊥) → same s t ≡ false
other_length s t h = go (same s t) refl
  where
    go : (b : Bool) → same s t ≡ b → b ≡ false
    go true e = absurd (h (ap length (same_eq s t e)))
    go false e = refl

pub upper_length : (s : List ℕ) → length (upper s) ≡ length s
unfolding upper
upper_length [] = refl
upper_length (b ∷ s) = ap suc (upper_length s)

pub upper_at : (s : List ℕ) (i : ℕ) → get_or (upper s) i 0 ≡ raised (get_or s i 0)
unfolding upper raised
upper_at [] i = refl
upper_at (b ∷ s) zero = refl
upper_at (b ∷ s) (suc i) = upper_at s i

-- two lists from a place on
module _ (s t : List ℕ) (i : ℕ) (h : i < length s) (k : i < length t) where
  pub agree : get_or s i 0 ≡ get_or t i 0 → same (drop i s) (drop i t) ≡ same (drop (i + 1) s) (drop (i + 1) t)
  unfolding same
  agree e = rw (add-one, drop-cons s i 0, drop-cons t i 0, eq-eqb _ _ e)

  pub differ : (get_or s i 0 ≡ get_or t i 0 → ⊥) → same (drop i s) (drop i t) ≡ false
  unfolding same
  differ e = rw (drop-cons s i 0, drop-cons t i 0, ne_eqb _ _ e)

pub upper_take : (n : ℕ) (s : List ℕ) → upper (take n s) ≡ take n (upper s)
unfolding upper
upper_take zero s = refl
upper_take (suc n) [] = refl
upper_take (suc n) (b ∷ s) = ap (◌∷◌ (raised b)) (upper_take n s)

pub upper_drop : (n : ℕ) (s : List ℕ) → upper (drop n s) ≡ drop n (upper s)
unfolding upper
upper_drop zero s = refl
upper_drop (suc n) [] = refl
upper_drop (suc n) (b ∷ s) = upper_drop n s

-- raised bytes are bytes
pub raised_small : (b : ℕ) → b < 256 → raised b < 256
unfolding raised
raised_small b h = elim (leb 97 b && leb b 122) as (λ t. cond t (b - 32) b < 256) [ true ↦ omega arith | false ↦ h ]
