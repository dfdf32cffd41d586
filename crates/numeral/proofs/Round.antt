-- What `shortest` writes is read back: its digits before the point spell the whole part, and those after it the rest.
use Prim.Native.Nat.{ℕ, zero, suc, ◌+◌, ◌-◌, ◌*◌, ◌/◌, ◌%◌, ◌^◌, ◌≤◌, ◌<◌}
use mathlib.Core.Path.{◌≡◌, refl, sym, ◌∙◌, ap, ap₂}
use mathlib.Core.Bool.{Bool, true, false, cond, not, ◌&&◌}
use mathlib.Core.List.{List, [], ◌∷◌, ◌++◌}
use lib.ListN.{length, length-append}
use lib.Dec.{ltb, eqb}
use lib.Pow.{pow-add}
use native.Mathlib.Omega.{arith}
use native.Mathlib.Nat.{pow-suc, suc-sub-suc, div-add-mod', mod-lt, div-lt_iff_lt-mul, add-sub_of_le, add-sub_cancel_left}
use borrow.Author.Tests.{le-leb, lt-ltb, ltb-true, eqb-true}
use Rattle.std.specs.declared.option.Option.TheVariants.{Some}
use Rattle.numeral.specs.Numeral.{limit, digit, all_digits, before, after, value, scaled, signed, unsigned_of, numeral_of, Good}
use Rattle.numeral.specs.Shortest.{natural, fraction, pointed, shortest}
use Rattle.numeral.proofs.Digits.{and_left, and_right, digit_of, digit_not, all_append, value_append, power_pos}
use Rattle.numeral.proofs.Exact.{only_exact}
use Rattle.numeral.proofs.Short.{fraction_length}

-- ---- the whole part
pub natural_digits : (k n : ℕ) → all_digits (natural k n) ≡ true
unfolding natural
natural_digits zero n = simp (digit_of (n % 10) (omega arith))
natural_digits (suc k) n = go (ltb n 10) refl (natural_digits k (n / 10))
  where
    go : (t : Bool) → ltb n 10 ≡ t → all_digits (natural k (n / 10)) ≡ true → all_digits (natural (suc k) n) ≡ true
    go true e ih = simp (e, digit_of n (ltb-true _ _ e))
    go false e ih = simp (e, all_append, ih, digit_of (n % 10) (omega arith))

pub natural_some : (k n : ℕ) → 0 < length (natural k n)
unfolding natural
natural_some zero n = omega arith
natural_some (suc k) n = go (ltb n 10)
  where
    go : (t : Bool) → 0 < length (cond t ((48 + n) ∷ []) (natural k (n / 10) ++ ((48 + n % 10) ∷ [])))
    go true = omega arith
    go false = simp length-append (omega arith)

pub natural_value : (k n : ℕ) → n < 10 ^ suc k → value (natural k n) ≡ n
unfolding natural
natural_value zero n h = omega arith
natural_value (suc k) n h = go (ltb n 10) refl (natural_value k (n / 10) ((div-lt_iff_lt-mul (omega arith)).1 (rw pow-suc at h)))
  where
    go : (t : Bool) → ltb n 10 ≡ t → value (natural k (n / 10)) ≡ n / 10 → value (natural (suc k) n) ≡ n
    go true e ih = simp e (omega arith)
    go false e ih = simp (e, value_append, ih) (omega arith)

-- ---- the decimals
pub fraction_digits : (k f : ℕ) → f < 10 ^ k → all_digits (fraction k f) ≡ true
unfolding fraction
fraction_digits zero f h = refl
fraction_digits (suc k) f h =
    go (eqb f 0) ((div-lt_iff_lt-mul (power_pos k)).1 (omega (arith, rw pow-suc at h))) (fraction_digits k (f % 10 ^ k) (mod-lt f (power_pos k)))
  where
    go : (t : Bool) → f / 10 ^ k < 10 → all_digits (fraction k (f % 10 ^ k)) ≡ true
        → all_digits (cond {A = List ℕ} t [] ((48 + f / 10 ^ k) ∷ fraction k (f % 10 ^ k))) ≡ true
    go true l ih = refl
    go false l ih = simp (digit_of (f / 10 ^ k) l, ih)

together : (q p v t : ℕ) → (q * p + v) * t ≡ q * (p * t) + v * t
together q p v t = omega arith

-- ten to the power l, and the rest up to k
pub powers : (l k : ℕ) → l ≤ k → 10 ^ l * 10 ^ (k - l) ≡ 10 ^ k
powers l k h = sym (pow-add 10 l (k - l)) ∙ ap (λ (n : ℕ). 10 ^ n) (add-sub_of_le h)

pub fraction_value : (k f : ℕ) → f < 10 ^ k → value (fraction k f) * 10 ^ (k - length (fraction k f)) ≡ f
unfolding fraction
fraction_value zero f h = omega arith
fraction_value (suc k) f h = go (eqb f 0) refl (fraction_length k r) (fraction_value k r (mod-lt f (power_pos k)))
  where
    r : ℕ
    r = f % 10 ^ k

    go : (t : Bool) → eqb f 0 ≡ t → length (fraction k r) ≤ k → value (fraction k r) * 10 ^ (k - length (fraction k r)) ≡ r
        → value (fraction (suc k) f) * 10 ^ (suc k - length (fraction (suc k) f)) ≡ f
    go true e l ih = simp e (omega (arith, eqb-true f 0 e))
    go false e l ih = simp (e, suc-sub-suc, add-sub_cancel_left, together, powers (length (fraction k r)) k l, ih) (div-add-mod' f (10 ^ k))

-- ---- what the text is taken apart into
before_pointed : (s t : List ℕ) → all_digits s ≡ true → before (s ++ pointed t) ≡ s
before_pointed [] [] h = refl
before_pointed [] (b ∷ t) h = refl
before_pointed (b ∷ s) t h =
    simp (digit_not b 46 (and_left (digit b) (all_digits s) h) (omega arith))
    (ap (λ (l : List ℕ). b ∷ l) (before_pointed s t (and_right (digit b) (all_digits s) h)))

after_pointed : (s t : List ℕ) → all_digits s ≡ true → after (s ++ pointed t) ≡ t
after_pointed [] [] h = refl
after_pointed [] (b ∷ t) h = refl
after_pointed (b ∷ s) t h =
    simp (digit_not b 46 (and_left (digit b) (all_digits s) h) (omega arith))
    (after_pointed s t (and_right (digit b) (all_digits s) h))

-- digits, and a point with decimals where there are any, have no minus in front
plain : (s t : List ℕ) → all_digits s ≡ true → 0 < length s → numeral_of (s ++ t) ≡ unsigned_of false (s ++ t)
plain [] t h e = absurd (omega arith)
plain (b ∷ s) t h e = simp (digit_not b 45 (and_left (digit b) (all_digits s) h) (omega arith))

-- a minus in front of what is not nought
signs : (m : ℕ) (body : List ℕ) → numeral_of body ≡ Some (signed false m) → unsigned_of true body ≡ Some (signed true m)
    → (n : Bool) → numeral_of (cond (n && not (eqb m 0)) (45 ∷ []) [] ++ body) ≡ Some (signed n m)
signs m body p q n = go n (eqb m 0) refl
  where
    go : (n t : Bool) → eqb m 0 ≡ t → numeral_of (cond (n && not (eqb m 0)) (45 ∷ []) [] ++ body) ≡ Some (signed n m)
    go true true e = simp e (simp e at p)
    go true false e = simp e (simp e at q)
    go false t e = p

-- q whole ones and r millionths, with r spelt by v at t millionths
joined : (m q r v p t : ℕ) → q * 1000000 + r ≡ m → v * t ≡ r → p * t ≡ 1000000 → m * p ≡ (q * p + v) * 1000000
joined m q r v p t e f g =
    omega (arith, ap (λ (n : ℕ). n * p) e, ap (λ (n : ℕ). n * p) f, ap (λ (n : ℕ). v * n) g)

module _ (m : ℕ) (small : m ≤ limit) where
  whole_of : List ℕ
  whole_of = natural 19 (m / 1000000)

  decimals_of : List ℕ
  decimals_of = fraction 6 (m % 1000000)

  all_whole : all_digits whole_of ≡ true
  unfolding whole_of
  all_whole = natural_digits 19 (m / 1000000)

  some_whole : 0 < length whole_of
  unfolding whole_of
  some_whole = natural_some 19 (m / 1000000)

  all_decimals : all_digits decimals_of ≡ true
  unfolding decimals_of
  all_decimals = fraction_digits 6 (m % 1000000) (omega arith)

  some_digit : 0 < length (whole_of ++ decimals_of)
  some_digit = simp length-append (omega (arith, some_whole))

  spells : m * 10 ^ length decimals_of ≡ value (whole_of ++ decimals_of) * 1000000
  unfolding whole_of decimals_of
  spells =
      let d = fraction 6 (m % 1000000) in
      simp (value_append, natural_value 19 (m / 1000000) (omega arith))
      (joined m (m / 1000000) (m % 1000000) (value d) (10 ^ length d) (10 ^ (6 - length d)) (omega arith) (fraction_value 6 (m % 1000000) (omega arith)) (powers (length d) 6 (fraction_length 6 (m % 1000000))))

  read_back : (negative : Bool) → unsigned_of negative (whole_of ++ pointed decimals_of) ≡ Some (signed negative m)
  read_back negative =
      let x = only_exact (whole_of ++ decimals_of) (length decimals_of) m spells in
      simp (
        before_pointed whole_of decimals_of all_whole,
        after_pointed whole_of decimals_of all_whole,
        all_append,
        all_whole,
        all_decimals,
        lt-ltb 0 (length (whole_of ++ decimals_of)) some_digit,
        x.0,
        x.1,
        le-leb m limit small,
      )

  -- what `shortest` writes is read back
  pub round : (negative : Bool) → numeral_of (shortest negative m) ≡ Some (signed negative m)
  unfolding shortest whole_of decimals_of
  round negative =
      signs m (whole_of ++ pointed decimals_of)
      (plain whole_of (pointed decimals_of) all_whole some_whole ∙ read_back false) (read_back true) negative

-- and so every value that a numeral can say
pub read_again : (negative : Bool) (m : ℕ) → Good (scaled negative m) → numeral_of (shortest negative m) ≡ Some (scaled negative m)
read_again negative m g = round m g.0 negative ∙ ap Some (go (eqb m 0) refl)
  where
    go : (t : Bool) → eqb m 0 ≡ t → signed negative m ≡ scaled negative m
    go true e = simp e (ap₂ scaled (sym (g.1 (eqb-true m 0 e))) (sym (eqb-true m 0 e)))
    go false e = simp e
