-- One turn of each loop, what a byte more adds to a number and to the bytes of one; where each ends; and words byte by byte.
use Prim.Native.Nat.{ℕ, zero, suc, ◌+◌, ◌-◌, ◌*◌, ◌/◌, ◌%◌, ◌^◌, ◌≤◌, ◌<◌}
use mathlib.Core.Path.{◌≡◌, refl}
use mathlib.Core.List.{List, [], ◌∷◌}
use native.Mathlib.Nat.{pow-suc, pow-le-pow_right}
use native.Mathlib.Omega.{arith}
use lib.ListN.{length, take, drop, get_or, drop_of_length-le}
use lib.Seq.{sets, set_out}
use Rattle.little.specs.Little.{little, number}
use Rattle.little.proofs.Laws.{stretch}

-- the low bytes from the i-th on: the next one, and the rest
pub next : (n i v : ℕ) → i < n → little (n - i) v ≡ (v % 256) ∷ little (n - (i + 1)) (v / 256)
unfolding little
next n i v h =
    let e : n - i ≡ suc (n - (i + 1)) = omega arith in
    rw e

-- what would stand past the end is left out
past_end : (xs l : List ℕ) (p : ℕ) → length l ≤ p → sets l p xs ≡ l
past_end [] l p h = refl
past_end (x ∷ xs) l p h = rw (set_out l p x h) (past_end xs l (suc p) (omega arith))

-- where no low bytes are left, or the next would stand past the end, all is laid
pub ended : (l : List ℕ) (p n v : ℕ) → (0 < n → length l ≤ p) → sets l p (little n v) ≡ l
unfolding little
ended l p zero v h = refl
ended l p (suc n) v h = past_end (little (suc n) v) l p (h (omega arith))

-- where no bytes are to be read, or the next would stand past the end, the number is nought
pub nothing : (l : List ℕ) (p n : ℕ) → (0 < n → length l ≤ p) → number (take n (drop p l)) ≡ 0
unfolding number
nothing l p zero h = refl
nothing l p (suc n) h = rw (drop_of_length-le l (h (omega arith)))

-- the number of a stretch that starts one byte earlier
pub earlier : (n i place : ℕ) (l : List ℕ) → 0 < i → i ≤ n
    → number (take (n - (i - 1)) (drop (place + (i - 1)) l)) ≡ get_or l (place + (i - 1)) 0 + 256 * number (take (n - i) (drop (place + i) l))
earlier n i place l p h =
    let e : n - (i - 1) ≡ suc (n - i) = omega arith in
    let s : place + i ≡ suc (place + (i - 1)) = omega arith in
    rw (e, s) (stretch (n - i) (place + (i - 1)) l)

-- a byte more: the bound grows by eight bits
pub wider : (n i b s : ℕ) → 0 < i → i ≤ n → b < 256 → s < 256 ^ (n - i) → 256 * s + b < 256 ^ (n - (i - 1))
wider n i b s p h q r =
    let e : n - (i - 1) ≡ suc (n - i) = omega arith in
    rw (e, pow-suc 256 (n - i)) (omega arith)

-- before a turn the sum has at most seven bytes
pub seven : (n i s : ℕ) → 0 < i → i ≤ n → n ≤ 8 → s < 256 ^ (n - i) → s < 72057594037927936
seven n i s p h q r =
    let m : 256 ^ (n - i) ≤ 256 ^ 7 = pow-le-pow_right (omega arith) {i = n - i} {j = 7} (omega arith) in
    omega arith

-- WORDS

next_byte : (k q p : ℕ) (l : List ℕ) → p ≡ q + 1 → number (take (suc k) (drop q l)) ≡ get_or l q 0 + 256 * number (take k (drop p l))
next_byte k q p l e =
    let s : p ≡ suc q = omega arith in
    rw s (stretch k q l)

none : (l : List ℕ) → number (take 0 l) ≡ 0
unfolding number
none l = refl

pub four_bytes : (l : List ℕ) (o : ℕ) → number (take 4 (drop o l)) ≡ get_or l o 0 + 256 * get_or l (o + 1) 0 + 65536 * get_or l (o + 2) 0 + 16777216 * get_or l (o + 3) 0
four_bytes l o = omega (
  arith,
  next_byte 3 o (o + 1) l refl,
  next_byte 2 (o + 1) (o + 2) l (omega arith),
  next_byte 1 (o + 2) (o + 3) l (omega arith),
  next_byte 0 (o + 3) (o + 4) l (omega arith),
  none (drop (o + 4) l),
)

pub eight_bytes : (l : List ℕ) (o : ℕ) → number (take 8 (drop o l)) ≡ number (take 4 (drop o l)) + 4294967296 * number (take 4 (drop (o + 4) l))
eight_bytes l o = omega (
  arith,
  next_byte 7 o (o + 1) l refl,
  next_byte 6 (o + 1) (o + 2) l (omega arith),
  next_byte 5 (o + 2) (o + 3) l (omega arith),
  next_byte 4 (o + 3) (o + 4) l (omega arith),
  four_bytes l o,
)
