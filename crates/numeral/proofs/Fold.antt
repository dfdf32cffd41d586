-- Reading byte by byte gives what `unsigned_of` says, by recursion on the bytes: first for the zeros past the sixth decimal, then
-- for the decimals, then for the whole.
use Prim.Native.Nat.{ℕ, zero, suc, ◌+◌, ◌-◌, ◌*◌, ◌^◌, ◌≤◌, ◌<◌}
use mathlib.Core.Path.{◌≡◌, refl, ◌∙◌, ap}
use mathlib.Core.Bool.{Bool, true, false, cond, not, ◌&&◌, ◌||◌, or-false, or-true, and-true, and-false}
use mathlib.Core.List.{List, [], ◌∷◌, ◌++◌}
use lib.ListN.{length, take, drop, length-append, length-take}
use lib.Seq.{drop-nil, take-nil}
use lib.Pow.{pow-add}
use lib.Dec.{leb, ltb, eqb}
use native.Mathlib.Omega.{arith}
use native.Mathlib.Nat.{mul-le-mul, mul-one, pow-le-pow_right, zero-sub, sub-zero, suc-sub-suc}
use borrow.Author.Tests.{lt-leb, lt-ltb, leb-false}
use Rattle.std.specs.declared.option.Option.TheVariants.{None}
use Rattle.std.specs.declared.option.Option.{Option}
use Rattle.numeral.specs.declared.Scaled.{Scaled}
use Rattle.numeral.specs.Numeral.{limit, digit, all_digits, before, after, value, bounded, spelt, unsigned_of}
use Rattle.numeral.specs.Machine.{most, zeros_of, decimals_of, whole_of}
use Rattle.numeral.proofs.Digits.{all_append, onward, one_more, onward_value, onward_zero, all_zeros, zeros_digits}
use Rattle.numeral.proofs.Exact.{exact_zeros, only_exact, six}

bounded_false : (neg : Bool) (m : ℕ) → limit < m → bounded neg m ≡ None
bounded_false neg m h = simp (lt-leb _ _ h)

abbrev some : List ℕ → Bool
some [] = false
some (b ∷ s) = true

some_length : (s : List ℕ) → ltb 0 (length s) ≡ some s
some_length [] = refl
some_length (b ∷ s) = lt-ltb 0 (suc (length s)) (omega arith)

-- ---- past the sixth decimal
zeros : (neg : Bool) (x : ℕ) (s : List ℕ) → zeros_of neg x s ≡ cond (all_zeros s) (bounded neg x) None
zeros neg x [] = refl
zeros neg x (b ∷ s) = go (eqb b 48) (zeros neg x s)
  where
    go : (t : Bool) → zeros_of neg x s ≡ cond (all_zeros s) (bounded neg x) None
        → cond t (zeros_of neg x s) None ≡ cond (t && all_zeros s) (bounded neg x) None
    go true ih = ih
    go false ih = refl

-- ---- past the point: what is said of the decimals after the digits of x, of which r still count
abbrev Decimals : Bool → Bool → ℕ → ℕ → List ℕ → Type 0
Decimals neg empty r x s =
    decimals_of neg empty r (x * 10 ^ r) s
    ≡ cond (all_digits s && (all_zeros (drop r s) && (some s || not empty))) (bounded neg (onward x (take r s) * 10 ^ (r - length s))) None

decimal_step : (neg empty : Bool) (r x b : ℕ) (s : List ℕ) (t : Bool) → digit b ≡ t
    → ((r' x' : ℕ) → Decimals neg false r' x' s) → Decimals neg empty r x (b ∷ s)
decimal_step neg empty zero x b s t e ih =
    let p : x * 10 ^ 0 ≡ x = omega arith in
    ap (λ (n : ℕ). zeros_of neg n (b ∷ s)) p ∙ simp (zero-sub, and-true, zeros_digits (b ∷ s), mul-one) (zeros neg x (b ∷ s))
decimal_step neg empty (suc r) x b s false e ih = simp e
decimal_step neg empty (suc r) x b s true e ih =
    simp (e, one_more, suc-sub-suc, and-true) (simp (or-true, and-true) at (ih r (x * 10 + (b - 48))))

decimals : (neg empty : Bool) (r x : ℕ) (s : List ℕ) → Decimals neg empty r x s
decimals neg true r x [] = simp drop-nil
decimals neg false r x [] = simp (drop-nil, take-nil, sub-zero)
decimals neg empty r x (b ∷ s) = decimal_step neg empty r x b s (digit b) refl (λ r' x'. decimals neg false r' x' s)

-- ---- before the point
abbrev Whole : Bool → Bool → ℕ → List ℕ → Type 0
Whole neg empty x s =
    whole_of neg empty x s
    ≡ cond (all_digits (before s) && (all_digits (after s) && (all_zeros (drop 6 (after s)) && (some (before s ++ after s) || not empty))))
    (bounded neg (onward x (before s ++ take 6 (after s)) * 10 ^ (6 - length (after s)))) None

-- a whole part above `most` passes the limit: the digits after it and the decimals that are missing are six at least
past : (neg : Bool) (x : ℕ) (w d : List ℕ) → most < x → bounded neg (onward x (w ++ take 6 d) * 10 ^ (6 - length d)) ≡ None
past neg x w d h =
    let l = w ++ take 6 d in
    let k = 6 - length d in
    let six-more : 6 ≤ length l + k = simp (length-append, length-take) (omega arith) in
    let p : 10 ^ 6 ≤ 10 ^ length l * 10 ^ k = rw pow-add at (pow-le-pow_right {n = 10} (omega arith) six-more) in
    bounded_false neg (onward x l * 10 ^ k) (rw onward_value (omega (arith, mul-le-mul h p)))

neither : (t : Bool) → cond {A = Option Scaled} t None None ≡ None
neither true = refl
neither false = refl

whole_step : (neg empty : Bool) (x b : ℕ) (s : List ℕ) (t u v : Bool) → eqb b 46 ≡ t → digit b ≡ u
    → leb (x * 10 + (b - 48)) most ≡ v → ((x' : ℕ) → Whole neg false x' s) → Whole neg empty x (b ∷ s)
whole_step neg empty x b s true u v e f g ih = simp e (decimals neg empty 6 x s)
whole_step neg empty x b s false false v e f g ih = simp (e, f)
whole_step neg empty x b s false true true e f g ih = simp (e, f, g) (simp or-true at (ih (x * 10 + (b - 48))))
whole_step neg empty x b s false true false e f g ih =
    simp (e, f, g, past neg (x * 10 + (b - 48)) (before s) (after s) (leb-false _ _ g), neither)

whole : (neg empty : Bool) (x : ℕ) (s : List ℕ) → Whole neg empty x s
whole neg true x [] = refl
whole neg false x [] = refl
whole neg empty x (b ∷ s) =
    whole_step neg empty x b s (eqb b 46) (digit b) (leb (x * 10 + (b - 48)) most) refl refl refl (λ x'. whole neg false x' s)

-- ---- what was read, in the words of the promise
closed : (neg : Bool) (w d : List ℕ)
    → cond (all_digits w && (all_digits d && (all_zeros (drop 6 d) && some (w ++ d)))) (bounded neg (value (w ++ take 6 d) * 10 ^ (6 - length d))) None
    ≡ spelt neg (w ++ d) (length d)
closed neg w d = go (all_digits w) (all_digits d) (all_zeros (drop 6 d)) refl refl refl
  where
    go : (t u v : Bool) → all_digits w ≡ t → all_digits d ≡ u → all_zeros (drop 6 d) ≡ v
        → cond (all_digits w && (all_digits d && (all_zeros (drop 6 d) && some (w ++ d)))) (bounded neg (value (w ++ take 6 d) * 10 ^ (6 - length d))) None
        ≡ spelt neg (w ++ d) (length d)
    go false u v e f g = simp (all_append, e)
    go true false v e f g = simp (all_append, e, f)
    go true true false e f g = simp (all_append, e, f, g, exact_zeros w d f, and-false)
    go true true true e f g =
        let x = only_exact (w ++ d) (length d) (value (w ++ take 6 d) * 10 ^ (6 - length d)) (six w d g) in
        simp (all_append, e, f, g, x.0, x.1, some_length, and-true)

pub reads : (neg : Bool) (s : List ℕ) → whole_of neg true 0 s ≡ unsigned_of neg s
reads neg s = simp (or-false, onward_zero) at (whole neg true 0 s) ∙ closed neg (before s) (after s)
