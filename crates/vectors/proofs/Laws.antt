-- The laws of the definitions at a place of the bytes, which the loops cite: each goes by the byte there and the bytes after it.
use Prim.Native.Nat.{ℕ, ◌+◌, ◌*◌, ◌≤◌, ◌<◌}
use mathlib.Core.Path.{◌≡◌, refl}
use mathlib.Core.List.{List, [], ◌∷◌}
use native.Mathlib.Numerals.{add-one}
use native.Mathlib.Omega.{arith}
use borrow.Author.Tests.{eq-eqb, ne_eqb}
use lib.ListN.{length, drop, get_or, length-drop}
use lib.Seq.{drop-cons}
use Rattle.vectors.specs.Next.{before}
use Rattle.vectors.specs.Hex.{pair, pairs}
use Rattle.vectors.specs.Plain.{meant}

-- the list from a place on is the byte there and the list from the next place on
pub step : (s : List ℕ) (i : ℕ) → i < length s → drop i s ≡ get_or s i 0 ∷ drop (i + 1) s
step s i h = rw (add-one, drop-cons s i 0)

module _ (b : ℕ) where
  -- the end, the byte that is looked for, and another byte
  pub before_none : before b [] ≡ 0
  unfolding before
  before_none = refl

  pub before_hit : (x : ℕ) (s : List ℕ) → x ≡ b → before b (x ∷ s) ≡ 0
  unfolding before
  before_hit x s e = rw (eq-eqb x b e)

  pub before_miss : (x : ℕ) (s : List ℕ) → (x ≡ b → ⊥) → before b (x ∷ s) ≡ before b s + 1
  unfolding before
  before_miss x s n = rw (ne_eqb x b n, add-one)

module _ (s : List ℕ) (n : ℕ) where
  -- two digits more
  pub pairs_more : 2 * n + 1 < length s → pairs (drop (2 * n) s) ≡ pair (get_or s (2 * n) 0) (get_or s (2 * n + 1) 0) ∷ pairs (drop (2 * (n + 1)) s)
  unfolding pairs
  pairs_more h =
      let e : 2 * (n + 1) ≡ 2 * n + 1 + 1 = omega arith in
      let low : 2 * n < length s = omega arith in
      rw (e, step s (2 * n) low, step s (2 * n + 1) h)

  -- one digit at the most is left
  pub pairs_end : length s ≤ 2 * n + 1 → pairs (drop (2 * n) s) ≡ []
  unfolding pairs
  pairs_end h = short (drop (2 * n) s) (rw length-drop (omega arith))
    where
      short : (l : List ℕ) → length l ≤ 1 → pairs l ≡ []
      short [] g = refl
      short (d ∷ []) g = refl
      short (d ∷ e ∷ l) g = absurd (omega arith)

-- a byte that is written as itself
pub meant_itself : (b : ℕ) (l : List ℕ) → (b ≡ 92 → length l ≤ 1) → meant (b ∷ l) ≡ b ∷ meant l
unfolding meant
meant_itself b [] h = refl
meant_itself b (d ∷ []) h = refl
meant_itself b (d ∷ e ∷ l) h = rw (ne_eqb b 92 (λ is. absurd (omega (arith, h is))))

-- a byte that is written by two digits
pub meant_escaped : (b : ℕ) (l : List ℕ) → b ≡ 92 → 1 < length l → meant (b ∷ l) ≡ pair (get_or l 0 0) (get_or l 1 0) ∷ meant (drop 2 l)
unfolding meant
meant_escaped b [] e h = absurd (omega arith)
meant_escaped b (d ∷ []) e h = absurd (omega arith)
meant_escaped b (d ∷ f ∷ l) e h = rw (eq-eqb b 92 e)

pub meant_none : meant [] ≡ []
unfolding meant
meant_none = refl
