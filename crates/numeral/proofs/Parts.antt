-- The parts of `shortest`, as they are written one after the other: a run of stores goes on where the one before it ended.
use Prim.Native.Nat.{ℕ, zero, suc, ◌+◌, ◌-◌, ◌/◌, ◌%◌, ◌^◌, ◌≤◌, ◌<◌}
use mathlib.Core.Path.{◌≡◌, refl, sym, ◌∙◌, ap}
use mathlib.Core.Bool.{Bool, cond}
use mathlib.Core.List.{List, [], ◌∷◌, ◌++◌}
use lib.ListN.{length, set, length-append}
use lib.Seq.{sets}
use lib.Dec.{ltb}
use native.Mathlib.Omega.{arith}
use native.Mathlib.Numerals.{add-one}
use native.Mathlib.Nat.{pow-suc, div-lt_iff_lt-mul, add-zero, one-le-pow}
use borrow.Author.Tests.{lt-ltb, le-ltb, ne_eqb}
use Rattle.numeral.specs.Shortest.{natural, fraction, pointed, sign, shortest}

pub sets_append : (l : List ℕ) (i : ℕ) (s t : List ℕ) → sets l i (s ++ t) ≡ sets (sets l i s) (i + length s) t
sets_append l i [] t = rw add-zero
sets_append l i (a ∷ s) t =
    let e : suc i + length s ≡ i + suc (length s) = omega arith in
    sets_append (set l i a) (suc i) s t ∙ ap (λ (n : ℕ). sets (sets (set l i a) (suc i) s) n t) e

-- ---- the whole part
pub whole_small : (n : ℕ) → n < 10 → natural 19 n ≡ (48 + n) ∷ []
unfolding natural
whole_small n h = simp (lt-ltb _ _ h)

-- a place more than enough changes nothing
natural_more : (k n : ℕ) → n < 10 ^ suc k → natural (suc k) n ≡ natural k n
unfolding natural
natural_more zero n h =
    let l : n < 10 = omega arith in
    let e : n ≡ n % 10 = omega arith in
    simp (lt-ltb n 10 l) (ap (λ (d : ℕ). (48 + d) ∷ []) e)
natural_more (suc k) n h =
    ap (λ (s : List ℕ). cond (ltb n 10) ((48 + n) ∷ []) (s ++ ((48 + n % 10) ∷ [])))
    (natural_more k (n / 10) ((div-lt_iff_lt-mul (omega arith)).1 (rw pow-suc at h)))

large : (k n : ℕ) → 10 ≤ n → natural (suc k) n ≡ natural k (n / 10) ++ ((48 + n % 10) ∷ [])
unfolding natural
large k n h = simp (le-ltb n 10 h)

pub whole_large : (n : ℕ) → 10 ≤ n → n < 2 ^ 64 → natural 19 n ≡ natural 19 (n / 10) ++ ((48 + n % 10) ∷ [])
whole_large n h l =
    large 18 n h ∙ ap (λ (s : List ℕ). s ++ ((48 + n % 10) ∷ [])) (sym (natural_more 18 (n / 10) (omega arith)))

pub whole_large_length : (n : ℕ) → 10 ≤ n → n < 2 ^ 64 → length (natural 19 n) ≡ length (natural 19 (n / 10)) + 1
whole_large_length n h l = ap length (whole_large n h l) ∙ length-append (natural 19 (n / 10)) ((48 + n % 10) ∷ [])

-- ---- the decimals
pub fraction_none : (k : ℕ) → fraction k 0 ≡ []
unfolding fraction
fraction_none zero = refl
fraction_none (suc k) = refl

pub fraction_more : (k f : ℕ) → 0 < f → fraction (suc k) f ≡ (48 + f / 10 ^ k) ∷ fraction k (f % 10 ^ k)
unfolding fraction
fraction_more k f h = simp (ne_eqb f 0 (omega arith))

pred_suc : (n : ℕ) → suc n - 1 ≡ n
pred_suc n = omega arith

-- while something is left there is a place for it, and its digit
pub turn : (k f : ℕ) → 0 < f → f < 10 ^ k
    → (1 ≤ k) × (fraction k f ≡ (48 + f / 10 ^ (k - 1)) ∷ fraction (k - 1) (f % 10 ^ (k - 1))) × (f / 10 ^ (k - 1) < 10)
turn zero f h l = absurd (omega arith)
turn (suc k) f h l = (
  omega arith,
  simp pred_suc (fraction_more k f h),
  simp pred_suc ((div-lt_iff_lt-mul (one-le-pow k 10 (omega arith))).1 (omega (arith, rw pow-suc at l))),
)

pub pointed_some : (f : ℕ) → 0 < f → pointed (fraction 6 f) ≡ 46 ∷ fraction 6 f
pointed_some f h = simp (fraction_more 5 f h)

pub pointed_none : (f : ℕ) → f ≡ 0 → pointed (fraction 6 f) ≡ []
pointed_none f h = simp (h, fraction_none)

pub length_shortest : (negative : Bool) (m : ℕ) → length (shortest negative m)
    ≡ length (sign negative m) + (length (natural 19 (m / 1000000)) + length (pointed (fraction 6 (m % 1000000))))
unfolding shortest
length_shortest negative m =
    length-append (sign negative m) (natural 19 (m / 1000000) ++ pointed (fraction 6 (m % 1000000)))
    ∙ ap (λ (n : ℕ). length (sign negative m) + n) (length-append (natural 19 (m / 1000000)) (pointed (fraction 6 (m % 1000000))))

-- without decimals, and with some
pub length_plain : (negative : Bool) (m : ℕ) → m % 1000000 ≡ 0 → length (shortest negative m) ≡ length (sign negative m) + length (natural 19 (m / 1000000))
length_plain negative m h =
    omega (arith, length_shortest negative m, ap length (pointed_none (m % 1000000) h))

pub length_pointed : (negative : Bool) (m : ℕ) → (m % 1000000 ≡ 0 → ⊥) → length (shortest negative m)
    ≡ length (sign negative m) + (length (natural 19 (m / 1000000)) + suc (length (fraction 6 (m % 1000000))))
length_pointed negative m h =
    length_shortest negative m
    ∙ ap (λ (s : List ℕ). length (sign negative m) + (length (natural 19 (m / 1000000)) + length s)) (pointed_some (m % 1000000) (omega arith))

-- three parts, one after the other
spread : (l : List ℕ) (i : ℕ) {l₁ l₂ : List ℕ} {p q : ℕ} (s n t : List ℕ) → p ≡ i + length s → l₁ ≡ sets l i s → q ≡ p + length n → l₂ ≡ sets l₁ p n
    → (q + length t ≡ i + length (s ++ (n ++ t))) × (sets l₂ q t ≡ sets l i (s ++ (n ++ t)))
spread l i s n t e f g h =
    (simp length-append (omega arith), simp (sets_append, h, f, g, e))

pub no_decimals : (l : List ℕ) (i : ℕ) {l₁ l₂ : List ℕ} {p q : ℕ} (negative : Bool) (m : ℕ) → m % 1000000 ≡ 0
    → p ≡ i + length (sign negative m) → l₁ ≡ sets l i (sign negative m)
    → q ≡ p + length (natural 19 (m / 1000000)) → l₂ ≡ sets l₁ p (natural 19 (m / 1000000))
    → (q ≡ i + length (shortest negative m)) × (l₂ ≡ sets l i (shortest negative m))
unfolding shortest
no_decimals l i {l₂ = l₂} {q = q} negative m z e f g h =
    let w = spread l i (sign negative m) (natural 19 (m / 1000000)) (pointed (fraction 6 (m % 1000000))) e f g h in
    let n = pointed_none (m % 1000000) z in
    (omega (arith, w.0, ap length n), ap (λ (t : List ℕ). sets l₂ q t) (sym n) ∙ w.1)

pub some_decimals : (l : List ℕ) (i : ℕ) {l₁ l₂ l₃ : List ℕ} {p q r : ℕ} (negative : Bool) (m : ℕ) → (m % 1000000 ≡ 0 → ⊥)
    → p ≡ i + length (sign negative m) → l₁ ≡ sets l i (sign negative m)
    → q ≡ p + length (natural 19 (m / 1000000)) → l₂ ≡ sets l₁ p (natural 19 (m / 1000000))
    → r ≡ q + 1 + length (fraction 6 (m % 1000000)) → l₃ ≡ sets (set l₂ q 46) (q + 1) (fraction 6 (m % 1000000))
    → (r ≡ i + length (shortest negative m)) × (l₃ ≡ sets l i (shortest negative m))
unfolding shortest
some_decimals l i {l₂ = l₂} {q = q} negative m z e f g h a b =
    let w = spread l i (sign negative m) (natural 19 (m / 1000000)) (pointed (fraction 6 (m % 1000000))) e f g h in
    let n = pointed_some (m % 1000000) (omega arith) in (
      omega (arith, w.0, ap length n),
      b ∙ rw add-one (ap (λ (t : List ℕ). sets l₂ q t) (sym n)) ∙ w.1,
    )
