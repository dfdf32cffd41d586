-- The kinds that a block lacks, as a number: one is taken away, and the mark after the last stays.
use Prim.Native.Nat.{ℕ, zero, suc, ◌+◌, ◌*◌, ◌/◌, ◌%◌, ◌^◌, ◌≤◌, ◌<◌}
use mathlib.Core.Path.{◌≡◌, sym, ap, ap₂, ◌∙◌}
use mathlib.Core.Bool.{cond}
use mathlib.Core.List.{[], ◌∷◌}
use native.Mathlib.Omega.{arith}
use native.Mathlib.Nat.{pow-zero, pow-suc, div-lt_iff_lt-mul}
use borrow.Author.Tests.{lt-ltb, le-ltb, eq-eqb, ne_eqb}
use lib.Dec.{ltb}
use Rattle.rows.specs.Packed.{kinds_in, kinds_of}
use Rattle.grammar.specs.Turns.{without}

-- so many bytes suffice
enough : (n s : ℕ) → s < 256 ^ n → kinds_in (suc n) s ≡ kinds_in n s
unfolding kinds_in
enough zero s h = let e : s ≡ 0 = omega (arith, rw (pow-zero 256) at h) in rw e
enough (suc n) s h =
    let q : s / 256 < 256 ^ n = (div-lt_iff_lt-mul {k = 256} {x = s} {y = 256 ^ n} (omega arith)).1 (rw (pow-suc 256 n) at h) in
    ap (λ ks. cond (ltb s 256) [] (s % 256 ∷ ks)) (enough n (s / 256) q)

split : (s : ℕ) → s < 2 ^ 64 → 256 ≤ s → kinds_of s ≡ s % 256 ∷ kinds_of (s / 256)
unfolding kinds_of kinds_in
split s h l = rw (le-ltb s 256 l) (ap (λ ks. s % 256 ∷ ks) (sym (enough 7 (s / 256) (omega arith))))

few : (s : ℕ) → s < 256 → kinds_of s ≡ []
unfolding kinds_of kinds_in
few s h = rw (lt-ltb s 256 h)

-- r is n without the first kind k, and still has a mark
abbrev pub Without : ℕ → ℕ → ℕ → Type 0
Without k n r = (kinds_of r ≡ without k (kinds_of n)) × ((0 < n → 0 < r) × (r ≤ n))

pub by_none : (k n : ℕ) → n < 256 → Without k n n
unfolding without
by_none k n h = (few n h ∙ sym (ap (without k) (few n h)), ((λ p. p), omega arith))

pub by_first : (k n : ℕ) → n < 2 ^ 64 → 256 ≤ n → n % 256 ≡ k → Without k n (n / 256)
unfolding without
by_first k n h l e = (sym (ap (without k) (split n h l) ∙ rw (eq-eqb k (n % 256) (sym e))), ((λ p. omega arith), omega arith))

pub by_later : (k n : ℕ) → n < 2 ^ 64 → 256 ≤ n → (n % 256 ≡ k → ⊥) → (w : ℕ) → Without k (n / 256) w → Without k n (n % 256 + 256 * w)
unfolding without
by_later k n h l e w q =
    let p : 0 < w = q.1.0 (omega arith) in
    let b : w ≤ n / 256 = q.1.1 in
    let x = n % 256 + 256 * w in
    let m : x % 256 ≡ n % 256 = omega arith in
    let d : x / 256 ≡ w = omega arith in
    let t : kinds_of x ≡ n % 256 ∷ without k (kinds_of (n / 256)) = split x (omega arith) (omega arith) ∙ ap₂ ◌∷◌ m (ap kinds_of d ∙ q.0) in
    (t ∙ sym (ap (without k) (split n h l) ∙ rw (ne_eqb k (n % 256) (λ z. e (sym z)))), ((λ z. omega arith), omega arith))
