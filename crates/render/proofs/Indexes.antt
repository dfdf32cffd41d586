-- The indexes of a reading's records: their places rise, so each is found at its own index, and indexes stand for places one for one.
use Prim.Native.Nat.{ℕ, zero, suc, ◌+◌, ◌-◌, ◌<◌}
use mathlib.Core.Path.{◌≡◌, refl, sym, ap, ◌∙◌}
use mathlib.Core.Bool.{Bool, true, false, cond}
use mathlib.Core.Logic.{⊎_elim}
use mathlib.Core.List.Memᴰ
use mathlib.Core.List.{List, [], ◌∷◌, map, Memᴰ}
use native.Mathlib.Omega.{arith}
use borrow.Author.Tests.{eqb-true, eqb-false, eq-eqb, ne_eqb, ltb-true, lt-ltb, le-ltb}
use lib.Dec.{eqb, ltb}
use lib.ListN.{length, get_or, drop, length-drop}
use lib.Seq.{drop-cons}
use Rattle.record.specs.declared.Record.{Record}
use Rattle.record.specs.Made.{library}
use Rattle.grammar.specs.Engine.{none, some}
use Rattle.grammar.specs.Reading.{records, reading}
use Rattle.grammar.specs.Standing.{Every, Rising, places_of, OwnedFrom}
use Rattle.grammar.proofs.Places.{places_rise, owners_known}
use Rattle.render.specs.Plain.{owner_of, bare, renamed_owner, renamed, index_in, aside}
use Rattle.render.specs.Fit.{indexed}
use Rattle.render.proofs.Every.{every_member}

-- INDEXES OF RISING PLACES

later : (p : ℕ) (ps : List ℕ) → Rising (p ∷ ps) → Rising ps
later p [] h = tt
later p (q ∷ ps) h = h.1

above : (p : ℕ) (ps : List ℕ) → Rising (p ∷ ps) → (j : ℕ) → j < length ps → p < get_or ps j 0
above p [] h j l = absurd (omega arith)
above p (q ∷ ps) h zero l = h.0
above p (q ∷ ps) h (suc j) l = omega (arith, h.0, above q ps h.1 j (omega arith))

pub index_of : (ps : List ℕ) → Rising ps → (i : ℕ) → i < length ps → index_in ps (get_or ps i 0) ≡ i
unfolding index_in
index_of [] h i l = absurd (omega arith)
index_of (p ∷ ps) h zero l = rw (eq-eqb p p refl)
index_of (p ∷ ps) h (suc i) l =
    let a = above p ps h i (omega arith) in
    rw (ne_eqb p (get_or ps i 0) (λ e. omega arith)) (ap suc (index_of ps (later p ps h) i (omega arith)))

-- NUMBERS FOR PLACES

-- a place that is found is one of them
found : (ps : List ℕ) (p : ℕ) → index_in ps p < length ps → get_or ps (index_in ps p) 0 ≡ p
unfolding index_in
found [] p h = absurd (omega arith)
found (q ∷ ps) p h = go (eqb q p) refl h (found ps p)
  where
    go : (c : Bool) → eqb q p ≡ c → cond c 0 (suc (index_in ps p)) < suc (length ps) → (index_in ps p < length ps → get_or ps (index_in ps p) 0 ≡ p)
        → get_or (q ∷ ps) (cond c 0 (suc (index_in ps p))) 0 ≡ p
    go true e h f = eqb-true q p e
    go false e h f = f (omega arith)

-- one of them is found
abbrev Found : List ℕ → ℕ → Type 0
Found ps p = index_in ps p < length ps

member_found : (ps : List ℕ) (p : ℕ) → Memᴰ p ps → Found ps p
unfolding index_in
member_found [] p m = absurd (Memᴰ.not-nil m)
member_found (q ∷ ps) p m = go (eqb q p) refl (member_found ps p)
  where
    go : (c : Bool) → eqb q p ≡ c → (Memᴰ p ps → Found ps p) → cond c 0 (suc (index_in ps p)) < suc (length ps)
    go true e f = omega arith
    go false e f = ⊎_elim (λ g. absurd (eqb-false q p e (sym g))) (λ g. omega (arith, f g)) (Memᴰ.cases_cons m)

-- its index, and a number of its own for any other
unfoldable pub numbered : List ℕ → ℕ → ℕ
numbered ps p = cond (ltb (index_in ps p) (length ps)) (index_in ps p) (length ps + p)

-- and back
abbrev numbering : List ℕ → ℕ → ℕ
numbering ps n = cond (ltb n (length ps)) (get_or ps n 0) (n - length ps)

back : (ps : List ℕ) (p : ℕ) → numbering ps (numbered ps p) ≡ p
unfolding numbered
back ps p = go (ltb (index_in ps p) (length ps)) refl
  where
    go : (c : Bool) → ltb (index_in ps p) (length ps) ≡ c → numbering ps (cond c (index_in ps p) (length ps + p)) ≡ p
    go true e = rw e (found ps p (ltb-true (index_in ps p) (length ps) e))
    go false e = rw (le-ltb (length ps + p) (length ps) (omega arith)) (omega arith)

-- ONE FOR ONE
pub numbered_alike : (ps : List ℕ) (p q : ℕ) → eqb (numbered ps p) (numbered ps q) ≡ eqb p q
numbered_alike ps p q = go (eqb p q) refl
  where
    go : (c : Bool) → eqb p q ≡ c → eqb (numbered ps p) (numbered ps q) ≡ c
    go true e = eq-eqb _ _ (ap (numbered ps) (eqb-true p q e))
    go false e = ne_eqb _ _ (λ f. eqb-false p q e (sym (back ps p) ∙ ap (numbering ps) f ∙ back ps q))

-- RECORDS

module _ (s : List ℕ) (ps : List ℕ) where
  -- the index is the number of an owner, as of a place that is found
  abbrev Agrees : ℕ → Type 0
  Agrees p = renamed_owner (index_in ps) (owner_of p) ≡ renamed_owner (numbered ps) (owner_of p)

  found_numbered : (p : ℕ) → Found ps p → index_in ps p ≡ numbered ps p
  unfolding numbered
  found_numbered p h = rw (lt-ltb (index_in ps p) (length ps) h)

  found_agrees : (p : ℕ) → Found ps p → Agrees p
  found_agrees p h = go (eqb p library)
    where
      go : (c : Bool) → renamed_owner (index_in ps) (cond c none (some p)) ≡ renamed_owner (numbered ps) (cond c none (some p))
      go true = refl
      go false = ap some (found_numbered p h)

  all_numbered : (known : List ℕ) (rs : List Record) → Every Agrees known → OwnedFrom known rs → ((p : ℕ) → Memᴰ p (places_of rs) → Found ps p)
      → map (λ r. renamed (index_in ps) (bare s r)) rs ≡ map (renamed (numbered ps)) (map (bare s) rs)
  all_numbered known [] k o f = refl
  all_numbered known (r ∷ rs) k o f =
      let g = f r.at (Memᴰ.head refl) in
      rw (every_member Agrees o.0 k, found_numbered r.at g)
      (ap (λ l. renamed (numbered ps) (bare s r) ∷ l)
      (all_numbered (r.at ∷ known) rs (found_agrees r.at g, k) o.1 (λ p m. f p (Memᴰ.tail m))))

  all_indexed : Rising ps → (n : ℕ) (rs : List Record) → drop n ps ≡ places_of rs → indexed n (map (λ r. renamed (index_in ps) (bare s r)) rs) ≡ true
  unfolding indexed
  all_indexed h n [] e = refl
  all_indexed h n (r ∷ rs) e =
      let l : n < length ps = omega (arith, length-drop n ps, ap length e) in
      let c = drop-cons ps n 0 l in
      let a : get_or ps n 0 ≡ r.at = cc in
      let d : drop (suc n) ps ≡ places_of rs = cc in
      rw (← a, eq-eqb _ n (index_of ps h n l)) (all_indexed h (suc n) rs d)

-- POSITIONS ASIDE IS NUMBERS FOR PLACES
pub aside_numbered : (s : List ℕ) (rs : List Record) → reading s ≡ records rs → aside s rs ≡ map (renamed (numbered (places_of rs))) (map (bare s) rs)
unfolding aside
aside_numbered s rs e = all_numbered s (places_of rs) (library ∷ []) rs (refl, tt) (owners_known s rs e) (member_found (places_of rs))

-- AND `at` IS THE INDEX
pub aside_indexed : (s : List ℕ) (rs : List Record) → reading s ≡ records rs → indexed 0 (aside s rs) ≡ true
unfolding aside
aside_indexed s rs e = all_indexed s (places_of rs) (places_rise s rs e) 0 rs refl
