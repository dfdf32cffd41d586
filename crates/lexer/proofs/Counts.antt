-- The laws of a count of places, over the predicate.
use Prim.Native.Nat.{ℕ, zero, suc, ◌+◌, ◌-◌, ◌≤◌, ◌<◌}
use mathlib.Core.Path.{◌≡◌, refl}
use mathlib.Core.Bool.{Bool, true, false, cond}
use native.Mathlib.Nat.{add-zero, zero-add}
use native.Mathlib.Omega.{arith}
use Rattle.lexer.specs.Lines.{tally, count}

module _ (p : ℕ → Bool) where
  -- the first m places, and those after them
  tally_add : (a m n : ℕ) → tally p a (m + n) ≡ tally p a m + tally p (a + m) n
  unfolding tally
  tally_add a zero n = rw (add-zero, zero-add n, zero-add (tally p a n))
  tally_add a (suc m) n =
      let e : suc m + n ≡ suc (m + n) = omega arith in
      let j : a + suc m ≡ a + 1 + m = omega arith in
      rw (e, j) (omega (arith, tally_add (a + 1) m n))

  tally_le : (a m : ℕ) → tally p a m ≤ m
  unfolding tally
  tally_le a zero = omega arith
  tally_le a (suc m) = go (p a) (tally_le (a + 1) m)
    where
      go : (t : Bool) → tally p (a + 1) m ≤ m → cond t 1 0 + tally p (a + 1) m ≤ suc m
      go true h = omega arith
      go false h = omega arith

  tally_none : (a m : ℕ) → ((k : ℕ) → a ≤ k → k < a + m → p k ≡ false) → tally p a m ≡ 0
  unfolding tally
  tally_none a zero h = refl
  tally_none a (suc m) h = rw (h a (omega arith) (omega arith)) (omega (arith, tally_none (a + 1) m (λ k g l. h k (omega arith) (omega arith))))

  -- a count is one of the places before b and one of those after it
  pub count_split : (a b e : ℕ) → a ≤ b → b ≤ e → count p a e ≡ count p a b + count p b e
  count_split a b e h g =
      let m : e - a ≡ (b - a) + (e - b) = omega arith in
      let j : a + (b - a) ≡ b = omega arith in
      rw (m, tally_add, j)

  pub count_le : (a e : ℕ) → count p a e ≤ e - a
  count_le a e = tally_le a (e - a)

  pub count_none : (a e : ℕ) → ((k : ℕ) → a ≤ k → k < e → p k ≡ false) → count p a e ≡ 0
  count_none a e h = tally_none a (e - a) (λ k g l. h k g (omega arith))

  pub count_one : (a : ℕ) → count p a (a + 1) ≡ cond (p a) 1 0
  unfolding tally
  count_one a =
      let m : a + 1 - a ≡ 1 = omega arith in
      rw m (add-zero _)

-- places at which two predicates agree count alike
tally_same : (p q : ℕ → Bool) (a m : ℕ) → ((k : ℕ) → a ≤ k → k < a + m → p k ≡ q k) → tally p a m ≡ tally q a m
unfolding tally
tally_same p q a zero h = refl
tally_same p q a (suc m) h = rw (h a (omega arith) (omega arith), tally_same p q (a + 1) m (λ k g l. h k (omega arith) (omega arith)))

pub count_same : (p q : ℕ → Bool) (a e : ℕ) → ((k : ℕ) → a ≤ k → k < e → p k ≡ q k) → count p a e ≡ count q a e
count_same p q a e h = tally_same p q a (e - a) (λ k g l. h k g (omega arith))
