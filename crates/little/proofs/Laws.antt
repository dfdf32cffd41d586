-- A number that fits n bytes is the number of its n low bytes, bytes are the low bytes of their number, and parts of bytes are bytes.
use Prim.Native.Nat.{ℕ, zero, suc, ◌+◌, ◌*◌, ◌/◌, ◌%◌, ◌^◌, ◌<◌}
use mathlib.Core.Path.{◌≡◌, refl}
use mathlib.Core.List.{List, [], ◌∷◌}
use native.Mathlib.Nat.{pow-zero, pow-suc, div-lt_iff_lt-mul}
use native.Mathlib.Omega.{arith}
use lib.ListN.{length, take, drop, get_or}
use lib.Seq.{take-nil, get_or-drop}
use Rattle.little.specs.Little.{little, number, Bytes}

-- a number that fits n bytes is the number of its n low bytes
pub number_little : (n v : ℕ) → v < 256 ^ n → number (little n v) ≡ v
unfolding little number
number_little zero v h = omega (arith, rw (pow-zero 256) at h)
number_little (suc n) v h =
    let q : v / 256 < 256 ^ n = (div-lt_iff_lt-mul {k = 256} {x = v} {y = 256 ^ n} (omega arith)).1 (rw (pow-suc 256 n) at h) in
    rw (number_little n (v / 256) q) (omega arith)

-- bytes are the low bytes of their number
pub little_number : (l : List ℕ) → Bytes l → little (length l) (number l) ≡ l
unfolding little number
little_number [] h = refl
little_number (b ∷ l) h =
    let q : b < 256 = h 0 in
    let m : (b + 256 * number l) % 256 ≡ b = omega arith in
    let d : (b + 256 * number l) / 256 ≡ number l = omega arith in
    rw (m, d, little_number l (λ i. h (suc i)))

-- the number of a stretch: its first byte, and the rest; past the end all are nought
pub stretch : (k q : ℕ) (l : List ℕ) → number (take (suc k) (drop q l)) ≡ get_or l q 0 + 256 * number (take k (drop (suc q) l))
unfolding number
stretch k zero [] = rw take-nil
stretch k (suc q) [] = rw take-nil
stretch k zero (b ∷ l) = refl
stretch k (suc q) (b ∷ l) = stretch k q l

-- a number of n bytes fits them
pub number_small : (n : ℕ) (l : List ℕ) → Bytes l → number (take n l) < 256 ^ n
unfolding number
number_small zero l h = rw (pow-zero 256) (omega arith)
number_small (suc n) [] h = rw (pow-suc 256 n) (omega (arith, number_small n [] h))
number_small (suc n) (b ∷ l) h =
    let first : b < 256 = h 0 in
    rw (pow-suc 256 n) (omega (arith, number_small n l (λ i. h (suc i))))

-- the number of one byte is that byte, and past the end nought
pub one : (o : ℕ) (l : List ℕ) → number (take 1 (drop o l)) ≡ get_or l o 0
unfolding number
one zero [] = refl
one (suc o) [] = refl
one zero (b ∷ l) = omega arith
one (suc o) (b ∷ l) = one o l

-- parts of bytes are bytes
pub take_bytes : (n : ℕ) (l : List ℕ) → Bytes l → Bytes (take n l)
take_bytes zero l h i = omega arith
take_bytes (suc n) [] h i = omega arith
take_bytes (suc n) (b ∷ l) h zero = h 0
take_bytes (suc n) (b ∷ l) h (suc i) = take_bytes n l (λ j. h (suc j)) i

pub drop_bytes : (o : ℕ) (l : List ℕ) → Bytes l → Bytes (drop o l)
drop_bytes o l h i = rw get_or-drop (h (o + i))
