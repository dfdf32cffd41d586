-- A code stands for the two words at its place in its kind's list: so a test of the list holds of them, and words that have a place have
-- a code that says them again.
use Prim.Native.Nat.{ℕ, suc, ◌+◌, ◌-◌, ◌*◌, ◌≤◌}
use mathlib.Core.Path.{◌≡◌, refl}
use mathlib.Core.Bool.{Bool, true, false, cond, not, ◌&&◌, ◌||◌}
use mathlib.Core.List.{List, [], ◌∷◌}
use native.Mathlib.Omega.{arith}
use borrow.Author.Tests.{eqb-true, eqb-false, eq-eqb, ne_eqb, not-true}
use lib.Dec.{eqb}
use lib.ListN.{get_or}
use Rattle.word.specs.Codes.{values_of, place_of, code_of}
use Rattle.word.specs.Spelling.{first_of, second_of}
use Rattle.word.proofs.Words.{both}
use Rattle.grammar.specs.Engine.{begins}
use Rattle.grammar.specs.Second.{goes_on}
use Rattle.render.specs.Says.{is_code}
use Rattle.render.proofs.Tested.{or_right}

-- VALUES IN A LIST

-- p holds of the two words of each value
unfoldable pub each_value : (ℕ → ℕ → Bool) → List ℕ → Bool
each_value p [] = true
each_value p (w ∷ []) = true
each_value p (w ∷ v ∷ l) = p w v && each_value p l

-- and so of a value that has a place
placed : (p : ℕ → ℕ → Bool) (n : ℕ) (l : List ℕ) (w v : ℕ) → each_value p l ≡ true → 1 ≤ place_of n l w v → p w v ≡ true
unfolding each_value place_of
placed p n [] w v t h = absurd (omega arith)
placed p n (a ∷ []) w v t h = absurd (omega arith)
placed p n (a ∷ b ∷ l) w v t h = let (x, y) = both (p a b) (each_value p l) t in go (eqb a w && eqb b v) refl h x (placed p (suc n) l w v y)
  where
    go : (c : Bool) → eqb a w && eqb b v ≡ c → 1 ≤ cond c n (place_of (suc n) l w v) → p a b ≡ true → (1 ≤ place_of (suc n) l w v → p w v ≡ true) → p w v ≡ true
    go true e h x f = let (q, r) = both (eqb a w) (eqb b v) e in rw (← eqb-true a w q, ← eqb-true b v r) x
    go false e h x f = f h

begins_placed : (n : ℕ) (l : List ℕ) (w v : ℕ) → 1 ≤ place_of n l w v → begins l w ≡ true
unfolding begins place_of
begins_placed n [] w v h = absurd (omega arith)
begins_placed n (a ∷ []) w v h = absurd (omega arith)
begins_placed n (a ∷ b ∷ l) w v h = go (eqb a w) (eqb b v) h (begins_placed (suc n) l w v)
  where
    go : (c d : Bool) → 1 ≤ cond (c && d) n (place_of (suc n) l w v) → (1 ≤ place_of (suc n) l w v → begins l w ≡ true) → c || begins l w ≡ true
    go true d h f = refl
    go false d h f = f h

goes_placed : (n : ℕ) (l : List ℕ) (w v : ℕ) → eqb v 0 ≡ false → 1 ≤ place_of n l w v → goes_on l w ≡ true
unfolding goes_on place_of
goes_placed n [] w v z h = absurd (omega arith)
goes_placed n (a ∷ []) w v z h = absurd (omega arith)
goes_placed n (a ∷ b ∷ l) w v z h = go (eqb a w) (eqb b v) refl h (goes_placed (suc n) l w v z)
  where
    go : (c d : Bool) → eqb b v ≡ d → 1 ≤ cond (c && d) n (place_of (suc n) l w v) → (1 ≤ place_of (suc n) l w v → goes_on l w ≡ true)
        → (c && not (eqb b 0)) || goes_on l w ≡ true
    go true true e h f = rw (eqb-true b v e, z)
    go true false e h f = or_right (not (eqb b 0)) (f h)
    go false d e h f = f h

-- a value that has a place stands there
found : (n : ℕ) (l : List ℕ) (w u : ℕ) → (place_of n l w u ≡ 0 → ⊥)
    → (j : ℕ) × (place_of n l w u ≡ n + j) × (get_or l (j + j) 0 ≡ w) × (get_or l (suc (j + j)) 0 ≡ u)
unfolding place_of
found n [] w u z = absurd (z refl)
found n (a ∷ []) w u z = absurd (z refl)
found n (a ∷ b ∷ l) w u z = go (eqb a w && eqb b u) refl z (found (suc n) l w u)
  where
    go : (t : Bool) → (eqb a w && eqb b u) ≡ t → (cond t n (place_of (suc n) l w u) ≡ 0 → ⊥)
        → ((place_of (suc n) l w u ≡ 0 → ⊥) → (j : ℕ) × (place_of (suc n) l w u ≡ suc n + j) × (get_or l (j + j) 0 ≡ w) × (get_or l (suc (j + j)) 0 ≡ u))
        → (j : ℕ) × (cond t n (place_of (suc n) l w u) ≡ n + j) × (get_or (a ∷ b ∷ l) (j + j) 0 ≡ w) × (get_or (a ∷ b ∷ l) (suc (j + j)) 0 ≡ u)
    go true e z f = let (p, q) = both (eqb a w) (eqb b u) e in (0, omega arith, eqb-true a w p, eqb-true b u q)
    go false e z f =
        let (j, p, x, y) = f z in
        let s : suc j + suc j ≡ suc (suc (j + j)) = omega arith in
        (suc j, omega arith, rw s x, rw s y)

-- THE WORDS OF A CODE

module _ (k c : ℕ) (h : is_code k c ≡ true) where
  abbrev w : ℕ
  w = first_of k c

  abbrev v : ℕ
  v = second_of k c

  pub code_some : eqb c 0 ≡ false
  unfolding is_code
  code_some = not-true (eqb c 0) (both (not (eqb c 0)) (eqb (code_of k w v) c) h).0

  pub code_again : code_of k w v ≡ c
  unfolding is_code
  code_again = eqb-true (code_of k w v) c (both (not (eqb c 0)) (eqb (code_of k w v) c) h).1

  pub code_alone : eqb v 0 ≡ true → code_of k w 0 ≡ c
  code_alone e = rw (← eqb-true v 0 e) code_again

  has_place : 1 ≤ place_of 1 (values_of k) w v
  unfolding code_of
  has_place = omega (arith, code_again, eqb-false c 0 code_some)

  pub code_begins : begins (values_of k) w ≡ true
  code_begins = begins_placed 1 (values_of k) w v has_place

  pub code_goes : eqb v 0 ≡ false → goes_on (values_of k) w ≡ true
  code_goes e = goes_placed 1 (values_of k) w v e has_place

  -- a test of the kind's values holds of them
  pub code_passes : (p : ℕ → ℕ → Bool) → each_value p (values_of k) ≡ true → p w v ≡ true
  code_passes p t = placed p 1 (values_of k) w v t has_place

-- THE CODE OF WORDS

module _ (k w u c : ℕ) (e : c ≡ code_of k w u) (z : c ≡ 0 → ⊥) where
  -- the words of a code
  words_back : (first_of k c ≡ w) × (second_of k c ≡ u)
  unfolding first_of second_of code_of
  words_back =
      let (j, p, x, y) = found 1 (values_of k) w u (λ q. z (rw e q)) in
      let q : 2 * c - 2 ≡ j + j = omega arith in
      let s : 2 * c - 1 ≡ suc (j + j) = omega arith in
      (rw (ne_eqb c 0 z, q) x, rw (ne_eqb c 0 z, s) y)

  pub second_back : second_of k c ≡ u
  second_back = words_back.1

  pub code_back : is_code k c ≡ true
  unfolding is_code
  code_back = rw (ne_eqb c 0 z, words_back.0, words_back.1, eq-eqb (code_of k w u) c (omega arith))
