-- A text in chunks: where each stands, and a run over those that it goes over whole.
use Prim.Native.Nat.{ℕ, zero, suc, ◌+◌, ◌-◌, ◌*◌, ◌/◌, ◌≤◌, ◌<◌}
use mathlib.Core.Path.{◌≡◌, refl, sym, ap, subst, ◌∙◌}
use mathlib.Core.Bool.{Bool, true, false, cond, not}
use mathlib.Core.List.{List, []}
use native.Mathlib.Nat.{zero-add}
use native.Mathlib.Omega.{arith}
use lib.Count.{count_trailing_zeros}
use lib.ListN.{length, take, drop, get_or, length-drop}
use lib.Seq.{drop-drop, length-take-le}
use Rattle.std.proofs.lemmas.List.{take_rest}
use Rattle.std.specs.List.{position_or_len}
use Rattle.std.specs.Simd.{first_chunks}
use Rattle.lexer.specs.Run.{run, past}
use Rattle.lexer.specs.Eight.{Packed, Marks}
use Rattle.lexer.proofs.Runs.{through}
use Rattle.lexer.proofs.EightRuns.{front, further, here, beyond}

-- the chunk k of eight bytes
pub chunk : (c k : ℕ) (l : List ℕ) → k < c → get_or (first_chunks 8 c l) k [] ≡ take 8 (drop (8 * k) l)
chunk zero k l h = absurd (omega arith)
chunk (suc c) zero l h = refl
chunk (suc c) (suc k) l h =
    let e : 8 + 8 * k ≡ 8 * suc k = omega arith in
    chunk c k (drop 8 l) (omega arith) ∙ ap (take 8) (drop-drop (8 * k) 8 l ∙ ap (λ j. drop j l) e)

eighth : (s : List ℕ) (at k : ℕ) (l : List ℕ) (es : List (List ℕ)) → l ≡ drop at s → es ≡ first_chunks 8 (length l / 8) l → length es ≡ length l / 8 → k < length es
    → get_or es k [] ≡ take 8 (drop (at + 8 * k) s)
eighth s at k l es e f n h = ap (λ x. get_or x k []) f ∙ chunk (length l / 8) k l (omega arith) ∙ ap (λ x. take 8 (drop (8 * k) x)) e ∙ ap (take 8) (drop-drop (8 * k) at s)

-- w is the chunk k of the text from the place `at` on, and the marks m on it are those of a run
module _ (s : List ℕ) (at k : ℕ) (es : List (List ℕ)) (w m : ℕ) (p : ℕ → Bool)
    (f : es ≡ first_chunks 8 (length (take (length s - at) (drop at s)) / 8) (take (length s - at) (drop at s)))
    (n : length es ≡ length (take (length s - at) (drop at s)) / 8)
    (h : k < length es) (b : Packed (get_or es k []) w) (e : Marks p w m) where
  there : Packed (take 8 (drop (at + 8 * k) s)) w
  there = subst (λ l. Packed l w) (eighth s at k _ es (take_rest s at) f n h) b

  -- without a mark the run goes on behind the chunk
  pub unmarked : m ≡ 0 → past p s (at + 8 * (k + 1)) ≡ past p s (at + 8 * k)
  unmarked z = ap (past p s) (omega arith) ∙ beyond p s (at + 8 * k) w m there e z

  -- the run ends where it ends from the first mark on
  pub marked : (j : ℕ) → (m ≡ 0 → ⊥) → j ≡ count_trailing_zeros 64 m / 8 → past p s (at + 8 * k + j) ≡ past p s (at + 8 * k)
  marked j z q = ap (past p s) (ap (λ c. at + 8 * k + c) q ∙ here p s (at + 8 * k) w m there e z) ∙ through p p s (at + 8 * k) (λ x y. y)

-- a test that passes where a run goes over all
module _ (p : ℕ → Bool) (q : List ℕ → Bool) (f : (m : List ℕ) → q m ≡ true → run p m ≡ length m) where
  skipped : (c : ℕ) (l : List ℕ) → 64 * c ≤ length l
      → 64 * position_or_len (λ m. not (q m)) (first_chunks 64 c l) + run p (drop (64 * position_or_len (λ m. not (q m)) (first_chunks 64 c l)) l) ≡ run p l
  skipped zero l h = omega arith
  skipped (suc c) l h = go (q (take 64 l)) refl (skipped c (drop 64 l) (omega (arith, length-drop 64 l)))
    where
      k : ℕ
      k = position_or_len (λ m. not (q m)) (first_chunks 64 c (drop 64 l))

      go : (t : Bool) → q (take 64 l) ≡ t → 64 * k + run p (drop (64 * k) (drop 64 l)) ≡ run p (drop 64 l)
          → 64 * cond (not (not t)) (1 + k) 0 + run p (drop (64 * cond (not (not t)) (1 + k) 0) l) ≡ run p l
      go true e r =
          let j : 64 * (1 + k) ≡ 64 + 64 * k = omega arith in
          rw (j, ← drop-drop (64 * k) 64 l) (omega (arith, further p 64 l (omega (arith, front p 64 l, f (take 64 l) e, length-take-le 64 l (omega arith)))))
      go false e r = omega arith

  pub past_skipped : (s : List ℕ) (bs : List (List ℕ)) (k : ℕ) → bs ≡ first_chunks 64 (length s / 64) s → k ≡ position_or_len (λ m. not (q m)) bs → past p s (64 * k) ≡ past p s 0
  past_skipped s bs k e h = rw (h, e) (skipped (length s / 64) s (omega arith) ∙ sym (zero-add (run p s)))
