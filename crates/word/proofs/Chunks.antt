-- A chunk of six bytes, or of those that are left: where it stands in the bytes, and where it leads.
use Prim.Native.Nat.{ℕ, ◌+◌, ◌-◌, ◌*◌, ◌≤◌, ◌<◌, min}
use mathlib.Core.Path.{◌≡◌, refl, sym, ap, ◌∙◌}
use mathlib.Core.List.{List, ◌++◌}
use native.Mathlib.Omega.{arith}
use lib.ListN.{length, take, drop, length-append}
use lib.Seq.{take_at, drop_at, drop-drop}
use Rattle.little.specs.Little.{Bytes}
use Rattle.word.specs.Words.{upper, word_of}
use Rattle.word.specs.Lookup.{marked, next_of}
use Rattle.word.proofs.Words.{upper_length, upper_take, upper_drop}
use Rattle.word.proofs.Lead.{is_word}
use Rattle.word.proofs.Turn.{Led, upper_bytes, on, over}

-- what is left of s is a chunk and what is left then
pub record Cut (s rest chunk left : List ℕ) : Type 0 where
  pub parts : rest ≡ chunk ++ left
  pub size : length chunk ≡ min 6 (length rest)
  pub some : 0 < length rest
  pub few : length rest ≤ length s
  pub stands : rest ≡ drop (length s - length rest) s

module _ (s rest chunk left : List ℕ) (cut : Cut s rest chunk left) where
  at : ℕ
  at = length s - length rest

  stop : ℕ
  stop = length s - length left

  sizes : length rest ≡ length chunk + length left
  sizes = ap length cut.parts ∙ length-append chunk left

  width : stop - at ≡ length chunk
  unfolding at stop
  width = omega (arith, sizes, cut.few)

  pub left_few : length left ≤ length s
  left_few = omega (arith, sizes, cut.few)

  pub left_stands : left ≡ drop (length s - length left) s
  left_stands =
      let n : length s - length rest + length chunk ≡ length s - length left = omega (arith, sizes, cut.few) in
      sym (drop_at chunk left (length chunk) refl) ∙ ap (drop (length chunk)) (sym cut.parts ∙ cut.stands)
      ∙ drop-drop (length chunk) (length s - length rest) s ∙ ap (λ k. drop k s) n

  chunk_is : chunk ≡ take (stop - at) (drop at s)
  unfolding at
  chunk_is = sym (take_at chunk left (length chunk) refl) ∙ ap (take (length chunk)) (sym cut.parts ∙ cut.stands) ∙ ap (λ k. take k (drop (length s - length rest) s)) (sym width)

  module _ (bs : Bytes s) (node k : ℕ) (led : Led (upper s) (length s - length rest) node) (f : k ≡ next_of (node + 256 * marked (upper chunk))) where
    inside : at < length (upper s)
    unfolding at
    inside = rw (upper_length s) (omega (arith, cut.some, cut.few))

    stops : stop ≡ min (at + 6) (length (upper s))
    unfolding at stop
    stops = rw (upper_length s) (omega (arith, sizes, cut.size, cut.few))

    leads : k ≡ next_of (node + 256 * marked (take (stop - at) (drop at (upper s))))
    leads =
        f ∙ ap (λ t. next_of (node + 256 * marked t))
        (ap upper chunk_is ∙ upper_take (stop - at) (drop at s) ∙ ap (take (stop - at)) (upper_drop at s))

    pub goes_on : (k ≡ 0 → ⊥) → Led (upper s) (length s - length left) k
    unfolding at stop
    goes_on z = on (upper s) at node led inside (upper_bytes s bs) stop stops k leads z

    pub is_over : k ≡ 0 → 0 ≡ word_of s
    unfolding at
    is_over z = is_word s 0 (sym (over (upper s) at node led inside (upper_bytes s bs) stop stops k leads z)) (omega arith)
