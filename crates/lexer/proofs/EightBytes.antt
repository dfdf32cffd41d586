-- The eight bytes from a place of a text on, and a rule on every byte, proved by one test that computes.
use Prim.Native.Nat.{ℕ, zero, suc, ◌+◌, ◌*◌, ◌≤◌, ◌<◌}
use mathlib.Core.Path.{◌≡◌, refl, ap, subst}
use mathlib.Core.Bool.{Bool, true, false, ◌&&◌}
use mathlib.Core.List.{List}
use native.Mathlib.Omega.{arith}
use borrow.Author.Tests.{eqb-true, eqb-false, ltb-true}
use lib.Dec.{eqb, ltb}
use lib.ListN.{length, take, drop, get_or}
use Rattle.std.proofs.lemmas.List.{take_all}
use Rattle.lexer.specs.Eight.{each, plain, Bytes}
use Rattle.lexer.proofs.Runs.{step, both}

-- the first of the bytes from a place on, and the others from the next place on
pub digit : (n : ℕ) (s : List ℕ) (i j : ℕ) → j ≡ i + 1 → i < length s → each plain (take (suc n) (drop i s)) ≡ each plain (take n (drop j s)) * 256 + get_or s i 0
unfolding each
digit n s i j e h = rw (step s i h, e)

-- the bytes of a text are bytes
pub bytes : (s : List ℕ) → ((k : ℕ) → get_or s k 0 < 256) → (n i : ℕ) → i + n ≤ length s → Bytes (take n (drop i s))
bytes s f zero i h = tt
bytes s f (suc n) i h = rw (step s i (omega arith)) (f i, bytes s f n (i + 1) (omega arith))

-- eight bytes as one number are the sum of the digits, each at its place
pub sum : (l : List ℕ) → length l ≡ 8
    → each plain l ≡ get_or l 0 0 + 256 * get_or l 1 0 + 65536 * get_or l 2 0 + 16777216 * get_or l 3 0
    + 4294967296 * get_or l 4 0 + 1099511627776 * get_or l 5 0 + 281474976710656 * get_or l 6 0 + 72057594037927936 * get_or l 7 0
unfolding each
sum l h =
    omega (
      arith,
      ap (each plain) (take_all 8 l (omega arith)),
      digit 7 l 0 1 refl (omega arith),
      digit 6 l 1 2 refl (omega arith),
      digit 5 l 2 3 refl (omega arith),
      digit 4 l 3 4 refl (omega arith),
      digit 3 l 4 5 refl (omega arith),
      digit 2 l 5 6 refl (omega arith),
      digit 1 l 6 7 refl (omega arith),
      digit 0 l 7 8 refl (omega arith),
    )

-- the bytes of eight bytes are bytes
pub all_bytes : (l : List ℕ) → length l ≡ 8 → ((k : ℕ) → get_or l k 0 < 256) → Bytes l
all_bytes l h f = subst Bytes (take_all 8 l (omega arith)) (bytes l f 8 0 (omega arith))

-- the test passes at each number below n
abbrev pub below : (ℕ → Bool) → ℕ → Bool
below f zero = true
below f (suc n) = f n && below f n

at : (f : ℕ → Bool) (n : ℕ) → below f n ≡ true → (k : ℕ) → k < n → f k ≡ true
at f zero t k h = absurd (omega arith)
at f (suc n) t k h = go (eqb k n) refl (at f n (both (f n) (below f n) t).1 k)
  where
    go : (b : Bool) → eqb k n ≡ b → (k < n → f k ≡ true) → f k ≡ true
    go true e r = rw (eqb-true k n e) (both (f n) (below f n) t).0
    go false e r = let other : k ≡ n → ⊥ = eqb-false k n e in r (omega arith)

-- two functions are equal at every byte
pub same : (f g : ℕ → ℕ) → below (λ b. eqb (f b) (g b)) 256 ≡ true → (b : ℕ) → b < 256 → f b ≡ g b
same f g t b h = eqb-true (f b) (g b) (at (λ b. eqb (f b) (g b)) 256 t b h)

-- a function makes a byte of every byte
pub small : (f : ℕ → ℕ) → below (λ b. ltb (f b) 256) 256 ≡ true → (b : ℕ) → b < 256 → f b < 256
small f t b h = ltb-true (f b) 256 (at (λ b. ltb (f b) 256) 256 t b h)
