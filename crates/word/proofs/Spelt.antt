-- The words by their numbers: what an arm for a word says, and that a number without an arm spells nothing there.
use Prim.Native.Nat.{ℕ, zero, suc, ◌*◌, ◌≤◌, ◌<◌}
use mathlib.Core.Path.{◌≡◌, refl}
use mathlib.Core.Bool.{Bool, true, ◌&&◌}
use mathlib.Core.List.{List, [], map}
use native.Mathlib.Decide.{dec_lt}
use native.Mathlib.Omega.{arith}
use lib.ListN.{length, take, drop, get_or, drop_of_length-le, get_or-append, get_or-eq_default}
use Rattle.little.specs.Little.{number, Bytes}
use Rattle.text.specs.Text.{bytes}
use Rattle.word.specs.Words.{keys, values, words}
use Rattle.word.specs.Lookup.{stems, word_count, nodes}
use Rattle.word.specs.Spelling.{spelling}
use Rattle.word.specs.Letters.{eights_of}
use Rattle.word.proofs.Words.{both}
use Rattle.word.proofs.Trie.{Lawful, node_law}

-- the test p passes at each number below n
abbrev pub below : (ℕ → Bool) → ℕ → Bool
below p zero = true
below p (suc n) = p n && below p n

pub below_at : (p : ℕ → Bool) (n : ℕ) → below p n ≡ true → (k : ℕ) → k < n → p k ≡ true
below_at p zero t k h = absurd (omega arith)
below_at p (suc n) t k h = elim (dec_lt k n) [
  | yes l ↦ below_at p n (both (p n) (below p n) t).1 k l
  | no q ↦ let e : k ≡ n = omega arith in rw e (both (p n) (below p n) t).0
]

-- a number above those of the words spells nothing
pub no_letters : (k : ℕ) → word_count < k → spelling k ≡ []
unfolding keys values words spelling
no_letters zero h = refl
no_letters (suc k) h = get_or-eq_default words [] {n = k} (omega arith)

-- the letters are bytes, and thirty at most
letters_law : (k : ℕ) → k < word_count → Lawful (get_or words k [])
unfolding keys values words stems nodes
letters_law k h = rw (← (get_or-append words (map bytes stems) [] k h)) (node_law k (omega arith))

pub letters_bytes : (k : ℕ) → Bytes (spelling k)
unfolding spelling
letters_bytes zero = λ i. omega arith
letters_bytes (suc k) = elim (dec_lt k word_count) [
  | yes h ↦ (letters_law k h).whole
  | no q ↦ rw (no_letters (suc k) (omega arith)) (λ i. omega arith)
]

pub few_letters : (k : ℕ) → length (spelling k) ≤ 30
unfolding spelling
few_letters zero = omega arith
few_letters (suc k) = elim (dec_lt k word_count) [
  | yes h ↦ (letters_law k h).short
  | no q ↦ rw (no_letters (suc k) (omega arith)) (omega arith)
]

-- eight letters, and none past the thirty-second
pub eights_at : (s : List ℕ) → length s ≤ 30 → (part : ℕ) → get_or (eights_of s) part 0 ≡ number (take 8 (drop (8 * part) s))
unfolding number
eights_at s h zero = refl
eights_at s h (suc zero) = refl
eights_at s h (suc (suc zero)) = refl
eights_at s h (suc (suc (suc zero))) = refl
eights_at s h (suc (suc (suc (suc p)))) = rw (drop_of_length-le s {i = 8 * suc (suc (suc (suc p)))} (omega arith))
