-- The laws of a run, over the predicate.
use Prim.Native.Nat.{ℕ, zero, suc, ◌+◌, ◌-◌, ◌≤◌, ◌<◌}
use mathlib.Core.Path.{◌≡◌, refl, ap, ◌∙◌}
use mathlib.Core.Bool.{Bool, true, false, cond, not, ◌&&◌}
use mathlib.Core.List.{List, [], ◌∷◌}
use native.Mathlib.Numerals.{add-one}
use native.Mathlib.Omega.{arith}
use lib.ListN.{length, take, drop, get_or, drop_of_length-le, length-drop}
use lib.Seq.{drop-cons, drop-drop, get_or-drop}
use borrow.Author.Tests.{ltb-false}
use Rattle.std.specs.Prelude.{Option, Some, None, ltb}
use Rattle.std.proofs.lemmas.List.{take_rest}
use Rattle.std.proofs.lemmas.List.Sums.{prefix_len-le-length}
use Rattle.std.specs.Option.{unwrap_or}
use Rattle.std.specs.List.{fold, position, position_or_len}
use Rattle.lexer.specs.Run.{run, past}

-- the list from a place on is the byte there and the list from the next place on
pub step : (s : List ℕ) (i : ℕ) → i < length s → drop i s ≡ get_or s i 0 ∷ drop (i + 1) s
step s i h = rw (add-one, drop-cons s i 0)

module _ (p : ℕ → Bool) (s : List ℕ) (i : ℕ) where
  -- a byte of the run: the run ends where it ends from the next place on
  pub on : i < length s → p (get_or s i 0) ≡ true → past p s (i + 1) ≡ past p s i
  unfolding run
  on h e = rw (step s i, e) (omega arith)

  -- a byte that is none, and the end of the text: the run ends here
  pub off : i < length s → p (get_or s i 0) ≡ false → i ≡ past p s i
  unfolding run
  off h e = rw (step s i, e) (omega arith)

  pub out : length s ≤ i → i ≡ past p s i
  unfolding run
  out h = rw (drop_of_length-le s) (omega arith)

-- a run lies within the text
short : (p : ℕ → Bool) (l : List ℕ) → run p l ≤ length l
unfolding run
short p [] = omega arith
short p (b ∷ l) = go (p b) (short p l)
  where
    go : (t : Bool) → run p l ≤ length l → cond t (suc (run p l)) 0 ≤ suc (length l)
    go true h = omega arith
    go false h = omega arith

pub within : (p : ℕ → Bool) (s : List ℕ) (i : ℕ) → i ≤ length s → past p s i ≤ length s
within p s i h = omega (arith, short p (drop i s), length-drop i s)

-- and each of its bytes satisfies the predicate
member : (p : ℕ → Bool) (l : List ℕ) (k : ℕ) → k < run p l → p (get_or l k 0) ≡ true
unfolding run
member p [] k h = absurd (omega arith)
member p (b ∷ l) k h = go (p b) refl k h (λ j. member p l j)
  where
    go : (t : Bool) → p b ≡ t → (k : ℕ) → k < cond t (suc (run p l)) 0 → ((j : ℕ) → j < run p l → p (get_or l j 0) ≡ true) → p (get_or (b ∷ l) k 0) ≡ true
    go true e zero h f = e
    go true e (suc k) h f = f k (omega arith)
    go false e k h f = absurd (omega arith)

pub inside : (p : ℕ → Bool) (s : List ℕ) (i k : ℕ) → i ≤ k → k < past p s i → p (get_or s k 0) ≡ true
inside p s i k h g =
    let e : i + (k - i) ≡ k = omega arith in
    rw (get_or-drop i s (k - i) 0, e) at (member p (drop i s) (k - i) (omega arith))

-- where q holds of all that p holds of, the run of q ends where it ends from after the run of p on
join : (p q : ℕ → Bool) → ((b : ℕ) → p b ≡ true → q b ≡ true) → (l : List ℕ) → run p l + run q (drop (run p l) l) ≡ run q l
unfolding run
join p q f [] = refl
join p q f (b ∷ l) = go (p b) refl (join p q f l)
  where
    go : (t : Bool) → p b ≡ t → run p l + run q (drop (run p l) l) ≡ run q l → cond t (suc (run p l)) 0 + run q (drop (cond t (suc (run p l)) 0) (b ∷ l)) ≡ run q (b ∷ l)
    go true e h = rw (f b e) (omega arith)
    go false e h = omega arith

pub through : (p q : ℕ → Bool) (s : List ℕ) (i : ℕ) → ((b : ℕ) → p b ≡ true → q b ≡ true) → past q s (past p s i) ≡ past q s i
through p q s i f = rw (← drop-drop (run p (drop i s)) i s) (omega (arith, join p q f (drop i s)))

-- the byte that ends a run is none of it
pub ended : (p : ℕ → Bool) (s : List ℕ) (i : ℕ) → past p s i < length s → p (get_or s (past p s i) 0) ≡ false
ended p s i h = go (p (get_or s (past p s i) 0)) refl
  where
    go : (t : Bool) → p (get_or s (past p s i) 0) ≡ t → t ≡ false
    go true e = absurd (omega (arith, on p s (past p s i) h e, through p p s i (λ b g. g)))
    go false e = refl

-- both tests of an `&` that holds
pub both : (a b : Bool) → a && b ≡ true → (a ≡ true) × (b ≡ true)
both true b h = (refl, h)
both false b h = absurd (let z : ◌≡◌ {A = ℕ} 0 1 = cc in omega arith)

-- the first byte that does not satisfy the predicate ends the run
first_off : (p : ℕ → Bool) (l : List ℕ) → position_or_len (λ b. not (p b)) l ≡ run p l
unfolding run
first_off p [] = refl
first_off p (b ∷ l) = go (p b) (first_off p l)
  where
    go : (t : Bool) → position_or_len (λ b. not (p b)) l ≡ run p l → cond (not (not t)) (1 + position_or_len (λ b. not (p b)) l) 0 ≡ cond t (suc (run p l)) 0
    go true e = omega arith
    go false e = refl

pub or_len : {X : Type 0} (q : X → Bool) (l : List X) (r : Option ℕ) → r ≡ position q l → unwrap_or r (length l) ≡ position_or_len q l
or_len q l r e = rw e (go (ltb (position_or_len q l) (length l)) refl)
  where
    go : (t : Bool) → ltb (position_or_len q l) (length l) ≡ t → unwrap_or (cond t (Some (position_or_len q l)) None) (length l) ≡ position_or_len q l
    go true h = refl
    go false h = omega (arith, prefix_len-le-length (λ x. not (q x)) l, ltb-false (position_or_len q l) (length l) h)

pub found : (p : ℕ → Bool) (s : List ℕ) (i n : ℕ) (r : Option ℕ) → r ≡ position (λ b. not (p b)) (take (length s - i) (drop i s)) → n ≡ unwrap_or r (length (take (length s - i) (drop i s)))
    → i + n ≡ past p s i
found p s i n r e u = ap (λ k. i + k) (u ∙ or_len _ _ r e ∙ first_off p _ ∙ ap (run p) (take_rest s i))

-- where every byte passes, the run goes over all
pub all_run : (p : ℕ → Bool) (l : List ℕ) (t : Bool) → fold (λ x b. x && p b) t l ≡ true → (t ≡ true) × (run p l ≡ length l)
unfolding run
all_run p [] t h = (h, refl)
all_run p (b ∷ l) t h =
    let (u, r) = all_run p l (t && p b) h in
    let (x, y) = both t (p b) u in
    (x, rw (y, r))
