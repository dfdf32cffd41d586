-- Laws of digits and of the number that they spell: each holds by recursion on the bytes.
use Prim.Native.Nat.{ℕ, zero, suc, ◌+◌, ◌-◌, ◌*◌, ◌^◌, ◌≤◌, ◌<◌}
use mathlib.Core.Path.{◌≡◌, refl, sym, ◌∙◌, ap}
use mathlib.Core.Bool.{Bool, true, false, ◌&&◌, and_assoc, and-false, false≢true}
use mathlib.Core.List.{List, [], ◌∷◌, ◌++◌}
use lib.ListN.{length, drop}
use lib.Dec.{leb, eqb}
use native.Mathlib.Omega.{arith}
use native.Mathlib.Nat.{pow-suc, one-le-pow, mul-le-mul_left, mul-le-mul_right}
use borrow.Author.Tests.{le-leb, leb-true, eqb-true, eq-eqb, ne_eqb}
use Rattle.numeral.specs.Numeral.{digit, all_digits, value}

pub and_left : (a b : Bool) → (a && b) ≡ true → a ≡ true
and_left true b h = refl
and_left false b h = h

pub and_right : (a b : Bool) → (a && b) ≡ true → b ≡ true
and_right true b h = h
and_right false b h = absurd (false≢true h)

pub power_pos : (k : ℕ) → 0 < 10 ^ k
power_pos k = one-le-pow k 10 (omega arith)

-- ---- one digit
pub digit_low : (b : ℕ) → digit b ≡ true → 48 ≤ b
digit_low b h = leb-true 48 b (and_left (leb 48 b) (leb b 57) h)

pub digit_high : (b : ℕ) → digit b ≡ true → b ≤ 57
digit_high b h = leb-true b 57 (and_right (leb 48 b) (leb b 57) h)

pub digit_of : (d : ℕ) → d < 10 → digit (48 + d) ≡ true
digit_of d h = simp (le-leb 48 (48 + d) (omega arith), le-leb (48 + d) 57 (omega arith))

-- no digit is a byte below 48, such as the minus and the point
pub digit_not : (b k : ℕ) → digit b ≡ true → k < 48 → eqb b k ≡ false
digit_not b k h l = ne_eqb b k (λ e. omega (arith, digit_low b h))

-- ---- digits
pub all_append : (s t : List ℕ) → all_digits (s ++ t) ≡ (all_digits s && all_digits t)
all_append [] t = refl
all_append (b ∷ s) t = ap (λ (u : Bool). digit b && u) (all_append s t) ∙ sym (and_assoc (digit b) (all_digits s) (all_digits t))

pub drop_digits : (n : ℕ) (s : List ℕ) → all_digits s ≡ true → all_digits (drop n s) ≡ true
drop_digits zero s h = h
drop_digits (suc n) [] h = refl
drop_digits (suc n) (b ∷ s) h = drop_digits n s (and_right (digit b) (all_digits s) h)

-- ---- the number that they spell
-- digits read on from a number x
abbrev pub onward : ℕ → List ℕ → ℕ
onward x [] = x
onward x (b ∷ s) = onward (x * 10 + (b - 48)) s

-- x and a digit d after it, where k more follow
pub one_more : (x d k : ℕ) → x * 10 ^ suc k + d * 10 ^ k ≡ (x * 10 + d) * 10 ^ k
one_more x d k = rw pow-suc (omega arith)

pub onward_value : (x : ℕ) (s : List ℕ) → onward x s ≡ x * 10 ^ length s + value s
onward_value x [] = omega arith
onward_value x (b ∷ s) = omega (arith, onward_value (x * 10 + (b - 48)) s, one_more x (b - 48) (length s))

pub onward_zero : (s : List ℕ) → onward 0 s ≡ value s
onward_zero s = omega (arith, onward_value 0 s)

onward_append : (x : ℕ) (s t : List ℕ) → onward x (s ++ t) ≡ onward (onward x s) t
onward_append x [] t = refl
onward_append x (b ∷ s) t = onward_append (x * 10 + (b - 48)) s t

pub value_append : (s t : List ℕ) → value (s ++ t) ≡ value s * 10 ^ length t + value t
value_append s t = sym (onward_zero (s ++ t)) ∙ onward_append 0 s t ∙ onward_value (onward 0 s) t ∙ ap (λ (n : ℕ). n * 10 ^ length t + value t) (onward_zero s)

pub value_lt : (s : List ℕ) → all_digits s ≡ true → value s < 10 ^ length s
value_lt [] h = omega arith
value_lt (b ∷ s) h =
    let d = and_left (digit b) (all_digits s) h in
    let l : b - 48 ≤ 9 = omega (arith, digit_high b d) in
    rw pow-suc (omega (arith, value_lt s (and_right (digit b) (all_digits s) h), mul-le-mul_right (10 ^ length s) l))

-- ---- `0` alone
abbrev pub all_zeros : List ℕ → Bool
all_zeros [] = true
all_zeros (b ∷ s) = eqb b 48 && all_zeros s

pub zeros_value : (s : List ℕ) → all_zeros s ≡ true → value s ≡ 0
zeros_value [] h = refl
zeros_value (b ∷ s) h =
    let e : b ≡ 48 = eqb-true b 48 (and_left (eqb b 48) (all_zeros s) h) in
    rw (e, zeros_value s (and_right (eqb b 48) (all_zeros s) h)) (omega arith)

pub value_zeros : (s : List ℕ) → all_digits s ≡ true → value s ≡ 0 → all_zeros s ≡ true
value_zeros [] h e = refl
value_zeros (b ∷ s) h e =
    let lo = digit_low b (and_left (digit b) (all_digits s) h) in
    let p = mul-le-mul_left (b - 48) (one-le-pow (length s) 10 (omega arith)) in
    let q : b ≡ 48 = omega arith in
    simp (eq-eqb b 48 q) (value_zeros s (and_right (digit b) (all_digits s) h) (omega arith))

-- zeros are digits
pub zeros_digits : (s : List ℕ) → (all_digits s && all_zeros s) ≡ all_zeros s
zeros_digits [] = refl
zeros_digits (b ∷ s) = go (eqb b 48) refl (zeros_digits s)
  where
    go : (t : Bool) → eqb b 48 ≡ t → (all_digits s && all_zeros s) ≡ all_zeros s → (all_digits (b ∷ s) && all_zeros (b ∷ s)) ≡ all_zeros (b ∷ s)
    go true e ih = rw (eqb-true b 48 e) ih
    go false e ih = simp (e, and-false)
