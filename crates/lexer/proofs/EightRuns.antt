-- The place of the first mark on eight bytes is where the run over them ends.
use Prim.Native.Nat.{ℕ, zero, suc, ◌+◌, ◌*◌, ◌/◌, ◌%◌, ◌^◌, ◌≤◌, min}
use mathlib.Core.Path.{◌≡◌, refl, sym, ap, ap₂, ◌∙◌}
use mathlib.Core.Bool.{Bool, true, false, cond}
use mathlib.Core.List.{List, [], ◌∷◌}
use native.Mathlib.Nat.{zero-add, suc-add, mul-one}
use native.Mathlib.Omega.{arith}
use lib.Bits.{shifted_half, shifted_even}
use lib.Count.{count_trailing_zeros, under, trailing_of_zero}
use lib.ListN.{length, take, drop}
use lib.Seq.{drop-drop}
use Rattle.lexer.specs.Run.{run, past}
use Rattle.lexer.specs.Eight.{each, mark, Packed, Marks}

-- a number with j zeros put below it has j more zeros at its end
shifted : (j k a : ℕ) → count_trailing_zeros (j + k) (a * 2 ^ j) ≡ j + count_trailing_zeros k a
unfolding count_trailing_zeros
shifted zero k a = ap₂ count_trailing_zeros (zero-add k) (mul-one a) ∙ sym (zero-add (count_trailing_zeros k a))
shifted (suc j) k a =
    ap (λ n. count_trailing_zeros n (a * 2 ^ suc j)) (suc-add j k)
    ∙ ap₂ (λ d n. under d (count_trailing_zeros (j + k) n)) (shifted_even a j) (shifted_half a j)
    ∙ ap suc (shifted j k a) ∙ sym (suc-add j (count_trailing_zeros k a))

-- a byte without a mark, and one with a mark
unmarked : (k a : ℕ) → count_trailing_zeros (8 + k) (a * 256 + 0) ≡ 8 + count_trailing_zeros k a
unmarked k a = ap (count_trailing_zeros (8 + k)) (omega arith) ∙ shifted 8 k a

marked : (k a : ℕ) → count_trailing_zeros (8 + k) (a * 256 + 128) ≡ 7
unfolding count_trailing_zeros
marked k a =
    let half : a * 256 + 128 ≡ (a * 2 + 1) * 128 = omega arith in
    let odd : (a * 2 + 1) % 2 ≡ 1 = omega arith in
    let count : 8 + k ≡ 7 + suc k = omega arith in
    ap₂ count_trailing_zeros count half ∙ shifted 7 (suc k) (a * 2 + 1) ∙ ap (λ d. 7 + under d (count_trailing_zeros k ((a * 2 + 1) / 2))) odd

-- where the first mark is
first_mark : (p : ℕ → Bool) (l : List ℕ) → count_trailing_zeros (length l * 8) (each (mark p) l) / 8 ≡ run p l
unfolding each run count_trailing_zeros
first_mark p [] = refl
first_mark p (b ∷ l) = go (p b) (first_mark p l)
  where
    count : suc (length l) * 8 ≡ 8 + length l * 8
    count = omega arith

    go : (t : Bool) → count_trailing_zeros (length l * 8) (each (mark p) l) / 8 ≡ run p l
        → count_trailing_zeros (suc (length l) * 8) (each (mark p) l * 256 + cond t 0 128) / 8 ≡ cond t (suc (run p l)) 0
    go true h = rw (count, unmarked) (omega arith)
    go false h = rw (count, marked)

-- where the run goes over all, there is no mark
clear : (p : ℕ → Bool) (l : List ℕ) → run p l ≡ length l → each (mark p) l ≡ 0
unfolding each run
clear p [] h = refl
clear p (b ∷ l) h = go (p b) h (clear p l)
  where
    go : (t : Bool) → cond t (suc (run p l)) 0 ≡ suc (length l) → (run p l ≡ length l → each (mark p) l ≡ 0) → each (mark p) l * 256 + cond t 0 128 ≡ 0
    go true e r = omega (arith, r (omega arith))
    go false e r = absurd (omega arith)

-- the run over the first bytes, and from a byte of the run on
pub front : (p : ℕ → Bool) (k : ℕ) (l : List ℕ) → run p (take k l) ≡ min k (run p l)
unfolding run
front p zero l = omega arith
front p (suc k) [] = omega arith
front p (suc k) (b ∷ l) = go (p b) (front p k l)
  where
    go : (t : Bool) → run p (take k l) ≡ min k (run p l) → cond t (suc (run p (take k l))) 0 ≡ min (suc k) (cond t (suc (run p l)) 0)
    go true e = omega arith
    go false e = omega arith

pub further : (p : ℕ → Bool) (k : ℕ) (l : List ℕ) → k ≤ run p l → k + run p (drop k l) ≡ run p l
unfolding run
further p zero l h = omega arith
further p (suc k) [] h = absurd (omega arith)
further p (suc k) (b ∷ l) h = go (p b) h (further p k l)
  where
    go : (t : Bool) → suc k ≤ cond t (suc (run p l)) 0 → (k ≤ run p l → k + run p (drop k l) ≡ run p l) → suc k + run p (drop k l) ≡ cond t (suc (run p l)) 0
    go true e r = omega (arith, r (omega arith))
    go false e r = absurd (omega arith)

-- the marks m on the eight bytes from the place i on
module _ (p : ℕ → Bool) (s : List ℕ) (i w m : ℕ) (h : Packed (take 8 (drop i s)) w) (e : Marks p w m) where
  before : count_trailing_zeros 64 m / 8 ≡ min 8 (run p (drop i s))
  before =
      ap (λ n. count_trailing_zeros 64 n / 8) (e _ h)
      ∙ ap (λ k. count_trailing_zeros (k * 8) (each (mark p) (take 8 (drop i s))) / 8) (sym h.long)
      ∙ first_mark p (take 8 (drop i s)) ∙ front p 8 (drop i s)

  -- a mark stands on one of the eight bytes, and the first is where the run ends
  pub few : (m ≡ 0 → ⊥) → count_trailing_zeros 64 m / 8 ≤ 7
  few n =
      let inside : run p (take 8 (drop i s)) ≡ 8 → ⊥ = λ q. n (e _ h ∙ clear p (take 8 (drop i s)) (q ∙ sym h.long)) in
      omega (arith, before, front p 8 (drop i s))

  pub here : (m ≡ 0 → ⊥) → i + count_trailing_zeros 64 m / 8 ≡ past p s i
  here n = omega (arith, before, few n)

  -- without a mark the run goes on behind the eight bytes
  pub beyond : m ≡ 0 → past p s (i + 8) ≡ past p s i
  beyond z =
      let eight : count_trailing_zeros 64 m / 8 ≡ 8 = ap (λ n. count_trailing_zeros 64 n / 8) z ∙ ap (λ n. n / 8) (trailing_of_zero 64) in
      rw (← drop-drop 8 i s) (omega (arith, further p 8 (drop i s) (omega (arith, before))))
