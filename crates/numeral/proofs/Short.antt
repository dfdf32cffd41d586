-- `shortest` is short: at most 16 bytes within the limit, and 22 for every magnitude of 64 bits, since each part is.
use Prim.Native.Nat.{ℕ, zero, suc, ◌+◌, ◌/◌, ◌%◌, ◌^◌, ◌*◌, ◌≤◌, ◌<◌, max}
use mathlib.Core.Path.{◌≡◌, refl}
use mathlib.Core.Bool.{Bool, true, false, cond, not}
use mathlib.Core.List.{List, [], ◌∷◌, ◌++◌}
use lib.ListN.{length, length-append}
use lib.Dec.{ltb, eqb}
use native.Mathlib.Omega.{arith}
use native.Mathlib.Nat.{pow-suc, div-lt_iff_lt-mul, one-le-pow}
use borrow.Author.Tests.{lt-ltb, le-ltb}
use Rattle.numeral.specs.Numeral.{limit}
use Rattle.numeral.specs.Shortest.{natural, fraction, pointed, sign, shortest}
use Rattle.numeral.proofs.Parts.{length_shortest}

pub fraction_length : (k f : ℕ) → length (fraction k f) ≤ k
unfolding fraction
fraction_length zero f = omega arith
fraction_length (suc k) f = go (eqb f 0) (fraction_length k (f % 10 ^ k))
  where
    go : (t : Bool) → length (fraction k (f % 10 ^ k)) ≤ k
        → length (cond {A = List ℕ} t [] ((48 + f / 10 ^ k) ∷ fraction k (f % 10 ^ k))) ≤ suc k
    go true ih = omega arith
    go false ih = omega arith

pub natural_length : (j k n : ℕ) → j ≤ k → n < 10 ^ suc j → length (natural k n) ≤ suc j
unfolding natural
natural_length j zero n h l = omega arith
natural_length zero (suc k) n h l = simp (lt-ltb n 10 (omega arith)) (omega arith)
natural_length (suc j) (suc k) n h l =
    go (ltb n 10) (natural_length j k (n / 10) (omega arith) ((div-lt_iff_lt-mul (omega arith)).1 (rw pow-suc at l)))
  where
    go : (t : Bool) → length (natural k (n / 10)) ≤ suc j
        → length (cond t ((48 + n) ∷ []) (natural k (n / 10) ++ ((48 + n % 10) ∷ []))) ≤ suc (suc j)
    go true ih = omega arith
    go false ih = simp length-append (omega arith)

natural_long : (j k n : ℕ) → j ≤ k → 10 ^ j ≤ n → suc j ≤ length (natural k n)
unfolding natural
natural_long j zero n h l = omega arith
natural_long zero (suc k) n h l = go (ltb n 10)
  where
    go : (t : Bool) → 1 ≤ length (cond t ((48 + n) ∷ []) (natural k (n / 10) ++ ((48 + n % 10) ∷ [])))
    go true = omega arith
    go false = simp length-append (omega arith)
natural_long (suc j) (suc k) n h l =
    let p : 10 * 10 ^ j ≤ n = omega (arith, rw pow-suc at l) in
    let q : 1 ≤ 10 ^ j = one-le-pow j 10 (omega arith) in
    let i = natural_long j k (n / 10) (omega arith) (omega (arith, p)) in
    simp (le-ltb n 10 (omega (arith, p, q)), length-append) (omega (arith, i))

natural_none : length (natural 19 0) ≡ 1
unfolding natural
natural_none = refl

-- how many digits a number has that ten to the power k does not pass, and ten times as much does
pub natural_many : (n m k : ℕ) → m ≡ max n 1 → 10 ^ k ≤ m → m < 10 * 10 ^ k → k < 20 → length (natural 19 n) ≡ k + 1
natural_many zero m zero e h l b = rw (natural_none) (omega arith)
natural_many zero m (suc k) e h l b =
    let q : 1 ≤ 10 ^ k = one-le-pow k 10 (omega arith) in
    absurd (omega (arith, q, rw pow-suc at h))
natural_many (suc n) m k e h l b =
    let u : suc n < 10 ^ suc k = rw pow-suc (omega arith) in
    omega (arith, natural_length k 19 (suc n) (omega arith) u, natural_long k 19 (suc n) (omega arith) (omega arith))

pub sign_length : (negative : Bool) (m : ℕ) → length (sign negative m) ≤ 1
sign_length true m = go (eqb m 0)
  where
    go : (t : Bool) → length {A = ℕ} (cond (not t) (45 ∷ []) []) ≤ 1
    go true = omega arith
    go false = omega arith
sign_length false m = omega arith

pub pointed_length : (s : List ℕ) → length (pointed s) ≤ suc (length s)
pointed_length [] = omega arith
pointed_length (b ∷ s) = omega arith

pub short : (negative : Bool) (m : ℕ) → m ≤ limit → length (shortest negative m) ≤ 16
short negative m h =
    omega (
      arith,
      length_shortest negative m,
      sign_length negative m,
      natural_length 7 19 (m / 1000000) (omega arith) (omega arith),
      pointed_length (fraction 6 (m % 1000000)),
      fraction_length 6 (m % 1000000),
    )

pub short_any : (negative : Bool) (m : ℕ) → m < 2 ^ 64 → length (shortest negative m) ≤ 22
short_any negative m h =
    omega (
      arith,
      length_shortest negative m,
      sign_length negative m,
      natural_length 13 19 (m / 1000000) (omega arith) (omega arith),
      pointed_length (fraction 6 (m % 1000000)),
      fraction_length 6 (m % 1000000),
    )
