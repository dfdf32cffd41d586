-- The first word of a list that a predicate holds of: found or missed, under predicates that agree, and in two lists joined.
use Prim.Native.Nat.{ℕ, zero, suc, ◌+◌, ◌<◌}
use mathlib.Core.Path.{◌≡◌, refl, sym, ◌∙◌}
use mathlib.Core.Bool.{Bool, true, false, cond, ◌&&◌}
use mathlib.Core.List.{List, [], ◌∷◌, ◌++◌}
use mathlib.Core.Logic.{◌⊎◌, inl, inr}
use native.Mathlib.Nat.{add-zero}
use native.Mathlib.Omega.{arith}
use borrow.Author.Tests.{ne_eqb}
use lib.Dec.{eqb}
use lib.ListN.{length, get_or}
use Rattle.word.specs.Words.{first_where}
use Rattle.word.proofs.Words.{both}

-- the j-th word of the list, from 0 on, is the first that p holds of, and m is its number
pub record Hit (p : List ℕ → Bool) (n : ℕ) (ws : List (List ℕ)) (m : ℕ) : Type 0 where
  pub j : ℕ
  pub number : m ≡ n + j
  pub inside : j < length ws
  pub holds : p (get_or ws j []) ≡ true

-- p holds of no word of the list
pub record Miss (p : List ℕ → Bool) (ws : List (List ℕ)) (m : ℕ) : Type 0 where
  pub none : m ≡ 0
  pub fails : (j : ℕ) → j < length ws → p (get_or ws j []) ≡ false

pub look : (p : List ℕ → Bool) (n : ℕ) (ws : List (List ℕ)) → Hit p n ws (first_where p n ws) ⊎ Miss p ws (first_where p n ws)
unfolding first_where
look p n [] = inr (record { none = refl; fails = λ j h. absurd (omega arith) })
look p n (w ∷ ws) = go (p w) refl (look p (suc n) ws)
  where
    go : (b : Bool) → p w ≡ b → Hit p (suc n) ws (first_where p (suc n) ws) ⊎ Miss p ws (first_where p (suc n) ws)
        → Hit p n (w ∷ ws) (cond b n (first_where p (suc n) ws)) ⊎ Miss p (w ∷ ws) (cond b n (first_where p (suc n) ws))
    go true h r = inl (record { j = 0; number = sym (add-zero n); inside = omega arith; holds = h })
    go false h (inl r) = inl (record { j = suc r.j; number = r.number ∙ omega arith; inside = omega (arith, r.inside); holds = r.holds })
    go false h (inr r) = inr (record { none = r.none; fails = each })
      where
        each : (j : ℕ) → j < suc (length ws) → p (get_or (w ∷ ws) j []) ≡ false
        each zero k = h
        each (suc j) k = r.fails j (omega arith)

-- predicates that agree on the words of a list find the same one
pub agree : (p q : List ℕ → Bool) (n : ℕ) (ws : List (List ℕ)) → ((j : ℕ) → j < length ws → p (get_or ws j []) ≡ q (get_or ws j [])) → first_where p n ws ≡ first_where q n ws
unfolding first_where
agree p q n [] h = refl
agree p q n (w ∷ ws) h = rw (h 0 (omega arith), agree p q (suc n) ws (λ j k. h (suc j) (omega arith)))

-- what is found in two lists, one after the other
pub joined : (p : List ℕ → Bool) (n : ℕ) (xs ys : List (List ℕ))
    → first_where p (suc n) (xs ++ ys) ≡ cond (eqb (first_where p (suc n) xs) 0) (first_where p (suc n + length xs) ys) (first_where p (suc n) xs)
unfolding first_where
joined p n [] ys = rw add-zero
joined p n (x ∷ xs) ys = go (p x) refl (joined p (suc n) xs ys)
  where
    go : (b : Bool) → p x ≡ b
        → first_where p (suc (suc n)) (xs ++ ys) ≡ cond (eqb (first_where p (suc (suc n)) xs) 0) (first_where p (suc (suc n) + length xs) ys) (first_where p (suc (suc n)) xs)
        → cond b (suc n) (first_where p (suc (suc n)) (xs ++ ys))
        ≡ cond (eqb (cond b (suc n) (first_where p (suc (suc n)) xs)) 0) (first_where p (suc n + suc (length xs)) ys) (cond b (suc n) (first_where p (suc (suc n)) xs))
    go true h r = rw (ne_eqb (suc n) 0 (λ e. omega arith))
    go false h r = let s : suc n + suc (length xs) ≡ suc (suc n) + length xs = omega arith in rw s r

-- a test of each word of a list
abbrev pub all : (List ℕ → Bool) → List (List ℕ) → Bool
all f [] = true
all f (w ∷ ws) = f w && all f ws

pub each_of : (f : List ℕ → Bool) (ws : List (List ℕ)) → all f ws ≡ true → (j : ℕ) → j < length ws → f (get_or ws j []) ≡ true
each_of f [] t j h = absurd (omega arith)
each_of f (w ∷ ws) t zero h = (both (f w) (all f ws) t).0
each_of f (w ∷ ws) t (suc j) h = each_of f ws (both (f w) (all f ws) t).1 j (omega arith)
