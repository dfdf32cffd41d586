-- Why a hit is the word: so many bytes are told by their number, and a word's letters spell it.
use Prim.Native.Nat.{ℕ, zero, suc, ◌+◌, ◌-◌, ◌*◌, ◌^◌, ◌≤◌, ◌<◌}
use mathlib.Core.Path.{◌≡◌, refl, sym, ap, ap₂, ◌∙◌}
use mathlib.Core.Bool.{Bool, true}
use mathlib.Core.List.{List}
use native.Mathlib.Decide.{dec_lt}
use native.Mathlib.Omega.{arith}
use borrow.Author.Tests.{eqb-true}
use lib.Dec.{eqb}
use lib.ListN.{length, take, drop, length-take, length-drop}
use lib.Seq.{take_all, drop-drop}
use Rattle.little.specs.Little.{little, number, Bytes}
use Rattle.little.proofs.Laws.{little_number, take_bytes, drop_bytes}
use Rattle.word.specs.Words.{keys, values, words, raised, upper, same, first_where, word_of}
use Rattle.word.specs.Lookup.{word_count}
use Rattle.word.specs.Spelling.{spelling}
use Rattle.word.proofs.Spelt.{below, below_at, no_letters, letters_bytes}
use Rattle.word.proofs.Masks.{in_two, parted}

-- what is true of every word, by one test that computes: its letters spell it
lawful : ℕ → Bool
lawful k = eqb (word_of (spelling (suc k))) (suc k)

tested : below lawful word_count ≡ true
unfolding keys values words raised upper same first_where word_of spelling lawful
tested = refl

-- as many bytes as a word has letters, with their number, spell it
hit : (s : List ℕ) (k : ℕ) → Bytes s → 1 ≤ length s → length (spelling k) ≡ length s → number (spelling k) ≡ number s → k ≡ word_of s
unfolding lawful spelling
hit s zero bs h n e = absurd (omega arith)
hit s (suc k) bs h n e = elim (dec_lt k word_count) [
  | yes l ↦
      let p : spelling (suc k) ≡ s =
      sym (little_number (spelling (suc k)) (letters_bytes (suc k))) ∙ ap₂ little n e ∙ little_number s bs in
      sym (eqb-true _ _ (below_at lawful word_count tested k l)) ∙ ap word_of p
  | no q ↦ absurd (omega (arith, ap length (no_letters (suc k) (omega arith))))
]

-- a span of a text
module _ (s : List ℕ) (start stop k : ℕ) (bs : Bytes s) (some : start < stop) (within : stop ≤ length s)
    (many : length (spelling k) ≡ stop - start) where
  span : List ℕ
  span = take (stop - start) (drop start s)

  spelt : number (spelling k) ≡ number span → k ≡ word_of span
  unfolding span
  spelt e =
      let n : length (take (stop - start) (drop start s)) ≡ stop - start = simp (length-take, length-drop) (omega arith) in
      hit (take (stop - start) (drop start s)) k (take_bytes (stop - start) (drop start s) (drop_bytes start s bs)) (omega arith) (omega arith) e

  pub found : (w : ℕ) → stop - start ≤ 8 → w ≡ number (take (stop - start) (drop start s)) → number (take 8 (spelling k)) ≡ w
      → k ≡ word_of (take (stop - start) (drop start s))
  unfolding span
  found w h e f = spelt (ap number (sym (take_all 8 (spelling k) (omega arith))) ∙ f ∙ e)

  pub found_long : (w v : ℕ) → 8 ≤ stop - start → stop - start ≤ 16
      → w ≡ number (take 8 (drop start s)) → v ≡ number (take (stop - start - 8) (drop (start + 8) s))
      → number (take 8 (spelling k)) ≡ w → number (take 8 (drop 8 (spelling k))) ≡ v → k ≡ word_of (take (stop - start) (drop start s))
  unfolding span
  found_long w v h j e f p q =
      let n : 8 + (stop - start - 8) ≡ stop - start = omega arith in
      let d : drop 8 (drop start s) ≡ drop (start + 8) s = drop-drop 8 start s in
      let a : number (take (8 + (stop - start - 8)) (drop start s)) ≡ w + 256 ^ 8 * v = in_two 8 (stop - start - 8) (drop start s) ∙ cc (d, e, f) in
      let r : take 8 (drop 8 (spelling k)) ≡ drop 8 (spelling k) = take_all 8 (drop 8 (spelling k)) (simp length-drop (omega arith)) in
      let b : number (spelling k) ≡ w + 256 ^ 8 * v = parted 8 (spelling k) ∙ cc (p, q, r) in
      spelt (b ∙ sym a ∙ ap (λ m. number (take m (drop start s))) n)
