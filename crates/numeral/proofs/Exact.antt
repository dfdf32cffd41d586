-- `millionths` is exact: where `exact` holds it is a million times the number that the digits and the point spell, and where
-- some number is that, `exact` holds. So a digit past the sixth decimal that is not `0` leaves no whole number of millionths.
use Prim.Native.Nat.{ℕ, ◌+◌, ◌-◌, ◌*◌, ◌%◌, ◌^◌, ◌<◌}
use mathlib.Core.Path.{◌≡◌, refl, sym, ◌∙◌, ap}
use mathlib.Core.Bool.{Bool, true, false, false≢true}
use mathlib.Core.List.{List, ◌++◌, append_assoc}
use lib.ListN.{length, take, drop, length-drop, take-append-drop, drop_of_length-le}
use lib.Dec.{leb}
use lib.Pow.{pow-add}
use native.Mathlib.Omega.{arith}
use native.Mathlib.Nat.{mul-le-mul_right, div-add-mod', mul-div_cancel, mul-mod_left}
use borrow.Author.Tests.{leb-true, leb-false, eqb-true, eq-eqb}
use Rattle.numeral.specs.Numeral.{all_digits, value, millionths, exact}
use Rattle.numeral.proofs.Digits.{value_append, value_lt, value_zeros, zeros_value, all_zeros, drop_digits, power_pos}

-- `value digits / 10 ^ places` times a million
pub is_exact : (digits : List ℕ) (places : ℕ) → exact digits places ≡ true
    → millionths digits places * 10 ^ places ≡ value digits * 1000000
is_exact digits places h =
    omega (arith, div-add-mod' (value digits * 1000000) (10 ^ places), eqb-true (value digits * 1000000 % 10 ^ places) 0 h)

pub only_exact : (digits : List ℕ) (places x : ℕ) → x * 10 ^ places ≡ value digits * 1000000
    → (exact digits places ≡ true) × (millionths digits places ≡ x)
only_exact digits places x h = (
  eq-eqb (value digits * 1000000 % 10 ^ places) 0 (rw (sym h) (mul-mod_left x (10 ^ places))),
  rw (sym h) (mul-div_cancel x (power_pos places)),
)

-- the digits up to the sixth decimal, and those past it
parted : (whole decimals : List ℕ)
    → value (whole ++ decimals) ≡ value (whole ++ take 6 decimals) * 10 ^ length (drop 6 decimals) + value (drop 6 decimals)
parted whole decimals =
    ap (λ (d : List ℕ). value (whole ++ d)) (sym (take-append-drop 6 decimals))
    ∙ ap value (sym (append_assoc whole (take 6 decimals) (drop 6 decimals)))
    ∙ value_append (whole ++ take 6 decimals) (drop 6 decimals)

product : (v a b c d : ℕ) → a * b ≡ c * d → v * a * b ≡ v * c * d
product v a b c d h = omega (arith, ap (λ (n : ℕ). v * n) h)

-- the digits up to the sixth decimal, ten times for each of the six that is missing
pub six : (whole decimals : List ℕ) → all_zeros (drop 6 decimals) ≡ true
    → value (whole ++ take 6 decimals) * 10 ^ (6 - length decimals) * 10 ^ length decimals ≡ value (whole ++ decimals) * 1000000
six whole decimals h =
    let n = length decimals in
    let e : (6 - n) + n ≡ (n - 6) + 6 = omega arith in
    let f : 10 ^ (6 - n) * 10 ^ n ≡ 10 ^ (n - 6) * 10 ^ 6 =
    sym (pow-add 10 (6 - n) n) ∙ ap (λ (k : ℕ). 10 ^ k) e ∙ pow-add 10 (n - 6) 6 in
    let z : value (whole ++ decimals) ≡ value (whole ++ take 6 decimals) * 10 ^ (n - 6) =
    parted whole decimals ∙ simp (zeros_value (drop 6 decimals) h, length-drop) (omega arith) in
    rw z (product (value (whole ++ take 6 decimals)) (10 ^ (6 - n)) (10 ^ n) (10 ^ (n - 6)) (10 ^ 6) f)

-- below p, only nought is a difference of two multiples of p
no_rest : (x v p r : ℕ) → r < p → x * p ≡ v * p + r → r ≡ 0
no_rest x v p r h e = go (leb x v) refl
  where
    go : (t : Bool) → leb x v ≡ t → r ≡ 0
    go true f = omega (arith, mul-le-mul_right p (leb-true x v f))
    go false f = omega (arith, mul-le-mul_right p (leb-false x v f))

-- where a million times the number is whole, what stands past the sixth decimal is `0` alone
pub only_zeros : (whole decimals : List ℕ) (x : ℕ) → all_digits decimals ≡ true
    → x * 10 ^ length decimals ≡ value (whole ++ decimals) * 1000000 → all_zeros (drop 6 decimals) ≡ true
only_zeros whole decimals x h e = go (leb (length decimals) 6) refl
  where
    go : (t : Bool) → leb (length decimals) 6 ≡ t → all_zeros (drop 6 decimals) ≡ true
    go true f = simp (drop_of_length-le decimals (leb-true (length decimals) 6 f))
    go false f =
        let z = drop 6 decimals in
        let l : 6 < length decimals = leb-false (length decimals) 6 f in
        let k : length decimals ≡ length z + 6 = simp length-drop (omega arith) in
        let p : 10 ^ length decimals ≡ 10 ^ length z * 10 ^ 6 = ap (λ (n : ℕ). 10 ^ n) k ∙ pow-add 10 (length z) 6 in
        let q = rw (p, parted whole decimals) at e in
        value_zeros z (drop_digits 6 decimals h)
        (no_rest x (value (whole ++ take 6 decimals)) (10 ^ length z) (value z) (value_lt z (drop_digits 6 decimals h)) (omega (arith, q)))

-- so `exact` asks for `0` alone past the sixth decimal
pub exact_zeros : (whole decimals : List ℕ) → all_digits decimals ≡ true
    → exact (whole ++ decimals) (length decimals) ≡ all_zeros (drop 6 decimals)
exact_zeros whole decimals h = go (exact (whole ++ decimals) (length decimals)) (all_zeros (drop 6 decimals)) refl refl
  where
    go : (t u : Bool) → exact (whole ++ decimals) (length decimals) ≡ t → all_zeros (drop 6 decimals) ≡ u → t ≡ u
    go true true e f = refl
    go true false e f =
        absurd (false≢true (sym f ∙ only_zeros whole decimals (millionths (whole ++ decimals) (length decimals)) h (is_exact (whole ++ decimals) (length decimals) e)))
    go false true e f =
        absurd (false≢true (sym e ∙ (only_exact (whole ++ decimals) (length decimals) (value (whole ++ take 6 decimals) * 10 ^ (6 - length decimals)) (six whole decimals f)).0))
    go false false e f = refl
