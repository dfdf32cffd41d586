-- Bytes as a number with a mark: one step of the sum, and that the number tells the bytes.
use Prim.Native.Nat.{ℕ, suc, ◌+◌, ◌-◌, ◌*◌, ◌^◌, ◌≤◌, ◌<◌}
use mathlib.Core.Path.{◌≡◌, refl, ap, ◌∙◌}
use mathlib.Core.List.{List, [], ◌∷◌}
use native.Mathlib.Nat.{pow-suc, pow-le-pow_right}
use native.Mathlib.Omega.{arith}
use lib.ListN.{length, drop, get_or}
use lib.Seq.{drop-cons}
use Rattle.little.specs.Little.{Bytes}
use Rattle.word.specs.Words.{raised, upper}
use Rattle.word.specs.Lookup.{marked}

-- a stretch that starts one byte earlier
pub earlier : (i : ℕ) (l : List ℕ) → 0 < i → i ≤ length l
    → marked (upper (drop (i - 1) l)) ≡ raised (get_or l (i - 1) 0) + 256 * marked (upper (drop i l))
unfolding upper marked
earlier i l p h =
    let s : suc (i - 1) ≡ i = omega arith in
    let inside : i - 1 < length l = omega arith in
    ap (λ t. marked (upper t)) (drop-cons l (i - 1) 0 inside) ∙ ap (λ j. raised (get_or l (i - 1) 0) + 256 * marked (upper (drop j l))) s

pub wider : (n i b s : ℕ) → 0 < i → i ≤ n → b < 256 → s < 2 * 256 ^ (n - i) → 256 * s + b < 2 * 256 ^ (n - (i - 1))
wider n i b s p h q r =
    let e : n - (i - 1) ≡ suc (n - i) = omega arith in
    rw (e, pow-suc 256 (n - i)) (omega arith)

bound : (m n s : ℕ) → m ≤ n → s < 2 * 256 ^ m → s < 2 * 256 ^ n
bound m n s h r = let k : 256 ^ m ≤ 256 ^ n = pow-le-pow_right (omega arith) {i = m} {j = n} h in omega arith

pub five : (m s : ℕ) → m ≤ 5 → s < 2 * 256 ^ m → s < 2199023255552
five m s h r = bound m 5 s h r

pub six : (m s : ℕ) → m ≤ 6 → s < 2 * 256 ^ m → s < 2 ^ 49
six m s h r = bound m 6 s h r

some : (l : List ℕ) → 1 ≤ marked l
unfolding marked
some [] = omega arith
some (b ∷ l) = omega (arith, some l)

-- the number tells the bytes
pub told : (a b : List ℕ) → Bytes a → Bytes b → marked a ≡ marked b → a ≡ b
unfolding marked
told [] [] h k e = refl
told [] (y ∷ b) h k e = absurd (omega (arith, some b))
told (x ∷ a) [] h k e = absurd (omega (arith, some a))
told (x ∷ a) (y ∷ b) h k e =
    let p : x < 256 = h 0 in
    let q : y < 256 = k 0 in
    let here : x ≡ y = omega arith in
    let rest : marked a ≡ marked b = omega arith in
    cc (told a b (λ i. h (suc i)) (λ i. k (suc i)) rest)
