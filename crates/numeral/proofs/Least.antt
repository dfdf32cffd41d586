-- No numeral of the same value that has a digit before its point is shorter than `shortest`: its digits before the point spell the
-- whole part, which has no fewer digits, and those after it the rest, which ends no sooner.
use Prim.Native.Nat.{ℕ, zero, suc, ◌+◌, ◌-◌, ◌*◌, ◌/◌, ◌%◌, ◌^◌, ◌≤◌, ◌<◌}
use mathlib.Core.Path.{◌≡◌, refl, sym, ◌∙◌, ap}
use mathlib.Core.Bool.{Bool, true, false, cond, ◌&&◌}
use mathlib.Core.List.{List, [], ◌∷◌, ◌++◌}
use lib.ListN.{length}
use lib.Dec.{leb, ltb, eqb}
use lib.Arith.{digits_mod}
use native.Mathlib.Omega.{arith}
use native.Mathlib.Nat.{suc-sub-suc, sub-zero, div-add-mod', mod-lt, mul-lt-mul_of_pos_right, le_of_mul-le-mul_right, lt_of_mul-lt-mul_right, eq_of_mul-eq-mul_right}
use borrow.Author.Tests.{leb-true, leb-false, eqb-true, eq-eqb}
use Rattle.std.specs.declared.option.Option.TheVariants.{Some}
use Rattle.numeral.specs.declared.Scaled.{Scaled}
use Rattle.numeral.specs.Numeral.{limit, scaled, all_digits, before, after, value, millionths, exact, bounded, spelt, unsigned_of, numeral_of}
use Rattle.numeral.specs.Shortest.{natural, fraction, pointed, sign, shortest}
use Rattle.numeral.proofs.Digits.{and_left, and_right, all_append, value_append, value_lt, power_pos}
use Rattle.numeral.proofs.Exact.{is_exact}
use Rattle.numeral.proofs.Parts.{length_shortest}
use Rattle.numeral.proofs.Short.{natural_length, fraction_length, sign_length, pointed_length}
use Rattle.numeral.proofs.Round.{powers}

-- ---- what a value tells of the numeral
same : {v w : Scaled} → Some v ≡ Some w → (v.negative ≡ w.negative) × (v.millionths ≡ w.millionths)
same h = (cc, cc)

bounded_tells : (n negative : Bool) (x m : ℕ) → bounded n x ≡ Some (scaled negative m) → (x ≡ m) × (m ≤ limit) × (n ≡ false → negative ≡ false)
bounded_tells n negative x m h = go (leb x limit) (eqb x 0) refl refl
  where
    go : (t u : Bool) → leb x limit ≡ t → eqb x 0 ≡ u → (x ≡ m) × (m ≤ limit) × (n ≡ false → negative ≡ false)
    go true true e f =
        let k = same (simp (e, f) at h) in
        let z = eqb-true x 0 f in
        (omega arith, omega arith, λ q. sym k.0)
    go true false e f =
        let k = same (simp (e, f) at h) in
        let l = leb-true x limit e in
        (k.1, omega arith, λ q. sym k.0 ∙ q)
    go false u e f =
        let k = simp e at h in
        let z : ◌≡◌ {A = ℕ} 0 1 = cc in
        absurd (omega arith)

spelt_tells : (n negative : Bool) (digits : List ℕ) (places m : ℕ) → spelt n digits places ≡ Some (scaled negative m)
    → (all_digits digits ≡ true) × (m * 10 ^ places ≡ value digits * 1000000) × (m ≤ limit) × (n ≡ false → negative ≡ false)
spelt_tells n negative digits places m h = go (all_digits digits && (ltb 0 (length digits) && exact digits places)) refl
  where
    go : (t : Bool) → (all_digits digits && (ltb 0 (length digits) && exact digits places)) ≡ t
        → (all_digits digits ≡ true) × (m * 10 ^ places ≡ value digits * 1000000) × (m ≤ limit) × (n ≡ false → negative ≡ false)
    go true e =
        let b = bounded_tells n negative (millionths digits places) m (simp e at h) in
        let r = and_right (all_digits digits) (ltb 0 (length digits) && exact digits places) e in
        let x = is_exact digits places (and_right (ltb 0 (length digits)) (exact digits places) r) in
        (and_left (all_digits digits) (ltb 0 (length digits) && exact digits places) e, rw b.0 at x, b.1, b.2)
    go false e =
        let k = simp e at h in
        let z : ◌≡◌ {A = ℕ} 0 1 = cc in
        absurd (omega arith)

-- ---- the decimals end no sooner
multiple_mod : (v p t : ℕ) → 0 < p → 0 < t → v * t % (p * t) ≡ v % p * t
multiple_mod v p t hp ht =
    let e : v * t ≡ v / p * (p * t) + v % p * t = omega (arith, ap (λ (n : ℕ). n * t) (sym (div-add-mod' v p))) in
    ap (λ (n : ℕ). n % (p * t)) e ∙ digits_mod (v / p) (mul-lt-mul_of_pos_right (mod-lt v hp) ht)

fraction_short : (k l v f : ℕ) → f ≡ v * 10 ^ (k - l) → f < 10 ^ k → l ≤ k → length (fraction k f) ≤ l
unfolding fraction
fraction_short zero l v f e h g = omega arith
fraction_short (suc k) zero v f e h g =
    let x : v * 10 ^ suc k < 1 * 10 ^ suc k = omega (arith, rw sub-zero at e) in
    let z : v ≡ 0 = omega (arith, lt_of_mul-lt-mul_right (10 ^ suc k) x) in
    let y : f ≡ 0 = omega (arith, e, ap (λ (n : ℕ). n * 10 ^ (suc k - 0)) z) in
    simp (eq-eqb f 0 y) (omega arith)
fraction_short (suc k) (suc l) v f e h g =
    go (eqb f 0)
    (fraction_short k l (v % 10 ^ l) (f % 10 ^ k) (rw (rw suc-sub-suc at e, sym (powers l k (omega arith))) (multiple_mod v (10 ^ l) (10 ^ (k - l)) (power_pos l) (power_pos (k - l)))) (mod-lt f (power_pos k)) (omega arith))
  where
    go : (t : Bool) → length (fraction k (f % 10 ^ k)) ≤ l
        → length (cond {A = List ℕ} t [] ((48 + f / 10 ^ k) ∷ fraction k (f % 10 ^ k))) ≤ suc l
    go true ih = omega arith
    go false ih = omega arith

pointed_more : (a b : List ℕ) → length a ≤ length b → length (pointed a) ≤ length (pointed b)
pointed_more [] b h = omega arith
pointed_more (x ∷ a) [] h = absurd (omega arith)
pointed_more (x ∷ a) (y ∷ b) h = omega arith

-- ---- the two parts of the value
whole_part : (m w v p : ℕ) → 0 < p → v < p → m * p ≡ (w * p + v) * 1000000 → (m / 1000000 ≡ w) × (m % 1000000 * p ≡ v * 1000000)
whole_part m w v p hp hv e =
    let a : w * 1000000 ≤ m = le_of_mul-le-mul_right (omega arith) hp in
    let b : m < (w + 1) * 1000000 = lt_of_mul-lt-mul_right p (omega arith) in
    let q : m / 1000000 ≡ w = omega arith in
    let r : m ≡ w * 1000000 + m % 1000000 = omega arith in
    (q, omega (arith, ap (λ (n : ℕ). n * p) r))

natural_least : (n : ℕ) (w : List ℕ) → 0 < length w → n < 10 ^ length w → n < 10 ^ 20 → length (natural 19 n) ≤ length w
natural_least n [] h l b = absurd (omega arith)
natural_least n (x ∷ w) h l b = go (leb (length w) 19) refl
  where
    go : (t : Bool) → leb (length w) 19 ≡ t → length (natural 19 n) ≤ suc (length w)
    go true e = natural_length (length w) 19 n (leb-true (length w) 19 e) l
    go false e = omega (arith, natural_length 19 19 n (omega arith) b, leb-false (length w) 19 e)

fraction_least : (r v l : ℕ) → r < 1000000 → r * 10 ^ l ≡ v * 1000000 → length (fraction 6 r) ≤ l
fraction_least r v l h e = go (leb l 6) refl
  where
    go : (t : Bool) → leb l 6 ≡ t → length (fraction 6 r) ≤ l
    go true f =
        let p = powers l 6 (leb-true l 6 f) in
        let x : r * 10 ^ l ≡ v * 10 ^ (6 - l) * 10 ^ l = omega (arith, e, ap (λ (n : ℕ). v * n) p) in
        fraction_short 6 l v r (eq_of_mul-eq-mul_right (10 ^ l) (power_pos l) r (v * 10 ^ (6 - l)) x) h (leb-true l 6 f)
    go false f = omega (arith, fraction_length 6 r, leb-false l 6 f)

-- ---- put together
apart : (t : List ℕ) → length (before t) + length (pointed (after t)) ≤ length t
apart [] = omega arith
apart (b ∷ s) = go (eqb b 46) refl (apart s)
  where
    go : (t : Bool) → eqb b 46 ≡ t → length (before s) + length (pointed (after s)) ≤ length s
        → length (before (b ∷ s)) + length (pointed (after (b ∷ s))) ≤ suc (length s)
    go true e ih = simp e (omega (arith, pointed_length s))
    go false e ih = simp e (omega arith)

unsigned_least : (n negative : Bool) (m : ℕ) (t : List ℕ) → unsigned_of n t ≡ Some (scaled negative m) → 0 < length (before t)
    → length (natural 19 (m / 1000000)) + length (pointed (fraction 6 (m % 1000000))) ≤ length t
unsigned_least n negative m t h some =
    let w = before t in
    let d = after t in
    let x = spelt_tells n negative (w ++ d) (length d) m h in
    let both = sym (all_append w d) ∙ x.0 in
    let all-w = and_left (all_digits w) (all_digits d) both in
    let all-d = and_right (all_digits w) (all_digits d) both in
    let p = whole_part m (value w) (value d) (10 ^ length d) (power_pos (length d)) (value_lt d all-d) (rw value_append at x.1) in
    let a = natural_least (m / 1000000) w some (rw p.0 (value_lt w all-w)) (omega (arith, x.2)) in
    let b = pointed_more (fraction 6 (m % 1000000)) d (fraction_least (m % 1000000) (value d) (length d) (omega arith) p.1) in
    omega (arith, a, b, apart t)

-- a numeral but for its minus
abbrev pub body : List ℕ → List ℕ
body [] = []
body (b ∷ s) = cond (eqb b 45) s (b ∷ s)

pub least : (negative : Bool) (m : ℕ) (s : List ℕ) → numeral_of s ≡ Some (scaled negative m) → 0 < length (before (body s))
    → length (shortest negative m) ≤ length s
least negative m [] h some = absurd (omega arith)
least negative m (b ∷ s) h some = go (eqb b 45) refl
  where
    go : (t : Bool) → eqb b 45 ≡ t → length (shortest negative m) ≤ suc (length s)
    go true e =
        omega (arith, length_shortest negative m, sign_length negative m, unsigned_least true negative m s (simp e at h) (simp e at some))
    go false e =
        let g = simp e at h in
        let o = simp e at some in
        let f : negative ≡ false = (spelt_tells false negative (before (b ∷ s) ++ after (b ∷ s)) (length (after (b ∷ s))) m g).3 refl in
        let z : length (sign negative m) ≡ 0 = rw f in
        omega (arith, length_shortest negative m, z, unsigned_least false negative m (b ∷ s) g o)
