-- Bytes of a text as numbers: in two parts, and the low ones under a mask; and a span that has no bytes.
use Prim.Native.Nat.{ℕ, zero, suc, ◌+◌, ◌-◌, ◌*◌, ◌/◌, ◌%◌, ◌^◌, ◌≤◌, ◌<◌}
use mathlib.Core.Path.{◌≡◌, refl, sym, ap, ◌∙◌}
use mathlib.Core.List.{List, [], ◌∷◌}
use native.Mathlib.Nat.{pow-zero, pow-suc, mul_assoc, mul_comm, zero-add, suc-add}
use native.Mathlib.Omega.{arith}
use lib.Bits.{bit_and, and_mask}
use lib.ListN.{length, take, drop, length-drop}
use lib.Pow.{pow-add, ones_split, ones_lt, high, low}
use lib.Seq.{take-nil, take_all}
use Rattle.little.specs.Little.{number, Bytes}
use Rattle.little.proofs.Laws.{number_small}

-- the number of n bytes and m more
pub in_two : (n m : ℕ) (l : List ℕ) → number (take (n + m) l) ≡ number (take n l) + 256 ^ n * number (take m (drop n l))
unfolding number
in_two zero m l = rw (zero-add m, pow-zero 256) (omega arith)
in_two (suc n) m [] = rw (take-nil m, take-nil (suc n + m)) (omega arith)
in_two (suc n) m (b ∷ l) =
    let e : 256 ^ suc n * number (take m (drop n l)) ≡ 256 * (256 ^ n * number (take m (drop n l))) =
    ap (λ p. p * number (take m (drop n l))) (pow-suc 256 n ∙ mul_comm (256 ^ n) 256) ∙ mul_assoc 256 (256 ^ n) (number (take m (drop n l))) in
    rw (suc-add n m) (omega (arith, e, in_two n m l))

-- all bytes, in two parts
pub parted : (n : ℕ) (l : List ℕ) → number l ≡ number (take n l) + 256 ^ n * number (drop n l)
parted n l =
    ap number (sym (take_all (n + length l) l (omega arith)))
    ∙ in_two n (length l) l
    ∙ ap (λ t. number (take n l) + 256 ^ n * number t) (take_all (length l) (drop n l) (simp length-drop (omega arith)))

bits : (n : ℕ) → 2 ^ (8 * n) ≡ 256 ^ n
bits zero = refl
bits (suc n) =
    let e : 8 * suc n ≡ 8 * n + 8 = omega arith in
    rw (e, pow-add 2 (8 * n) 8, pow-suc 256 n, bits n)

-- a mask of so many bytes leaves them
pub masked : (n w : ℕ) (l : List ℕ) → Bytes l → n ≤ 8 → w ≡ number (take 8 l) → bit_and w (18446744073709551615 / 2 ^ (64 - 8 * n)) ≡ number (take n l)
masked n w l bs h e = ap (bit_and w) ones ∙ and_mask w (8 * n) ∙ ap (λ x. x % 2 ^ (8 * n)) parts ∙ low high_bytes (8 * n) small
  where
    high_bytes : ℕ
    high_bytes = number (take (8 - n) (drop n l))

    ones : 18446744073709551615 / 2 ^ (64 - 8 * n) ≡ 2 ^ (8 * n) - 1
    ones =
        let s : 8 * n + (64 - 8 * n) ≡ 64 = omega arith in
        ap (λ x. (2 ^ x - 1) / 2 ^ (64 - 8 * n)) (sym s)
        ∙ ap (λ x. x / 2 ^ (64 - 8 * n)) (ones_split (8 * n) (64 - 8 * n))
        ∙ high (2 ^ (8 * n) - 1) (64 - 8 * n) (ones_lt (64 - 8 * n))

    parts : w ≡ high_bytes * 2 ^ (8 * n) + number (take n l)
    parts =
        let s : n + (8 - n) ≡ 8 = omega arith in
        let f : w ≡ number (take n l) + 256 ^ n * high_bytes = e ∙ ap (λ x. number (take x l)) (sym s) ∙ in_two n (8 - n) l in
        rw (bits n) (omega (arith, f, mul_comm (256 ^ n) high_bytes))

    small : number (take n l) < 2 ^ (8 * n)
    small = rw (bits n) (number_small n l bs)

-- a span that ends before it starts has no bytes
module _ (s : List ℕ) (a e : ℕ) where
  pub turned : e ≤ a → [] ≡ take (e - a) (drop a s)
  turned h = let z : e - a ≡ 0 = omega arith in rw z
