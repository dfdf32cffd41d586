-- Two indexes compared, by going through both: they are found the same where they are, and otherwise the first position at which they differ.
use Prim.Native.Nat.{ℕ, zero, suc, ◌<◌, zero-le, suc-le-suc}
use native.Mathlib.Nat.{le_of_suc-le-suc, not-suc-le-zero}
use native.Mathlib.Omega.{arith}
use mathlib.Core.Path.{◌≡◌, refl, sym, ap, ◌∙◌}
use mathlib.Core.Logic.{◌↔◌, ◌⊎◌, inl, inr}
use mathlib.Core.Bool.{Bool, true, false, cond, ◌&&◌, true≢false, false≢true}
use mathlib.Core.List.{List, [], ◌∷◌}
use mathlib.Core.Option.{Option, some, none-ne-some, some-injective}
use lib.Dec.{eqb}
use lib.ListN.{length, get_elem?}
use borrow.Author.Tests.{eq-eqb, eqb-true}
use Rattle.refusal.specs.declared.Refusal.{Refusal}
use Rattle.refusal.specs.Table.{refused, done, index_differs}
use Rattle.entry.specs.declared.Entry.{Entry}
use Rattle.index.specs.Answers.{same, differ, compared}
use Rattle.index.specs.Meaning.{DifferAt}

-- EQUAL ENTRIES

pub both : (a b : Bool) → (a && b) ≡ true → (a ≡ true) × (b ≡ true)
both true b h = (refl, h)
both false b h = absurd (false≢true h)

by_fields : (e f : Entry) → e.owner ≡ f.owner → e.name ≡ f.name → e.len ≡ f.len → e.at ≡ f.at → e ≡ f
by_fields e f o n l a = λ i. record { owner = o i; name = n i; len = l i; at = a i }

pub same_equal : (e f : Entry) → same e f ≡ true → e ≡ f
unfolding same
same_equal e f h =
    let h3 = both _ (eqb e.at f.at) h in
    let h2 = both _ (eqb e.len f.len) h3.0 in
    let h1 = both (eqb e.owner f.owner) (eqb e.name f.name) h2.0 in
    by_fields e f (eqb-true _ _ h1.0) (eqb-true _ _ h1.1) (eqb-true _ _ h2.1) (eqb-true _ _ h3.1)

pub same_self : (e : Entry) → same e e ≡ true
unfolding same
same_self e =
    rw (eq-eqb e.owner e.owner refl, eq-eqb e.name e.name refl, eq-eqb e.len e.len refl, eq-eqb e.at e.at refl)

pub same_true : (e f : Entry) → e ≡ f → same e f ≡ true
same_true e f h = ap (same e) (sym h) ∙ same_self e

-- WHERE THEY DIFFER

pub differ_self : (l : List Entry) → differ l l ≡ length l
unfolding differ
differ_self [] = refl
differ_self (e ∷ l) = rw (same_self e) (ap suc (differ_self l))

-- before they differ they have the same
differ_before : (k l : List Entry) (j : ℕ) → j < differ k l → get_elem? k j ≡ get_elem? l j
unfolding differ
differ_before [] l j h = absurd (not-suc-le-zero h)
differ_before (e ∷ k) [] j h = absurd (not-suc-le-zero h)
differ_before (e ∷ k) (f ∷ l) j h = go (same e f) refl j h (differ_before k l)
  where
    go : (b : Bool) → same e f ≡ b → (j : ℕ) → j < cond b (suc (differ k l)) 0
        → ((i : ℕ) → i < differ k l → get_elem? k i ≡ get_elem? l i) → get_elem? (e ∷ k) j ≡ get_elem? (f ∷ l) j
    go true t zero h r = ap {B = Option Entry} some (same_equal e f t)
    go true t (suc i) h r = r i (le_of_suc-le-suc h)
    go false t j h r = absurd (not-suc-le-zero h)

-- where they have the same even there, both have ended
differ_end : (k l : List Entry) → get_elem? k (differ k l) ≡ get_elem? l (differ k l) → (differ k l ≡ length k) × (differ k l ≡ length l)
unfolding differ
differ_end [] [] h = (refl, refl)
differ_end [] (f ∷ l) h = absurd (none-ne-some f h)
differ_end (e ∷ k) [] h = absurd (none-ne-some e (sym h))
differ_end (e ∷ k) (f ∷ l) h = go (same e f) refl h (differ_end k l)
  where
    go : (b : Bool) → same e f ≡ b → get_elem? (e ∷ k) (cond b (suc (differ k l)) 0) ≡ get_elem? (f ∷ l) (cond b (suc (differ k l)) 0)
        → (get_elem? k (differ k l) ≡ get_elem? l (differ k l) → (differ k l ≡ length k) × (differ k l ≡ length l))
        → (cond b (suc (differ k l)) 0 ≡ suc (length k)) × (cond b (suc (differ k l)) 0 ≡ suc (length l))
    go true t h r = let z = r h in (ap suc z.0, ap suc z.1)
    go false t h r = absurd (true≢false (sym (same_true e f (some-injective e f h)) ∙ t))

-- ended together they are the same
differ_ended : (k l : List Entry) → differ k l ≡ length k → differ k l ≡ length l → k ≡ l
unfolding differ
differ_ended [] [] p q = refl
differ_ended [] (f ∷ l) p q = absurd (omega arith)
differ_ended (e ∷ k) [] p q = absurd (omega arith)
differ_ended (e ∷ k) (f ∷ l) p q = go (same e f) refl p q (differ_ended k l)
  where
    go : (b : Bool) → same e f ≡ b → cond b (suc (differ k l)) 0 ≡ suc (length k) → cond b (suc (differ k l)) 0 ≡ suc (length l)
        → (differ k l ≡ length k → differ k l ≡ length l → k ≡ l) → e ∷ k ≡ f ∷ l
    go true t p q r = let z : k ≡ l = r (omega arith) (omega arith) in rw (same_equal e f t, z)
    go false t p q r = absurd (omega arith)

differ_is : (k l : List Entry) (p : ℕ) → DifferAt k l p → differ k l ≡ p
unfolding differ
differ_is [] [] p h = absurd (h.1 refl)
differ_is [] (f ∷ l) zero h = refl
differ_is [] (f ∷ l) (suc p) h = absurd (none-ne-some f (h.0 0 (suc-le-suc zero-le)))
differ_is (e ∷ k) [] zero h = refl
differ_is (e ∷ k) [] (suc p) h = absurd (none-ne-some e (sym (h.0 0 (suc-le-suc zero-le))))
differ_is (e ∷ k) (f ∷ l) zero h = go (same e f) refl
  where
    go : (b : Bool) → same e f ≡ b → cond b (suc (differ k l)) 0 ≡ 0
    go true t = absurd (h.1 (ap {B = Option Entry} some (same_equal e f t)))
    go false t = refl
differ_is (e ∷ k) (f ∷ l) (suc p) h =
    rw (same_true e f (some-injective e f (h.0 0 (suc-le-suc zero-le))))
    (ap suc (differ_is k l p (λ j q. h.0 (suc j) (suc-le-suc q), h.1)))

-- WHAT COMPARING ANSWERS

-- the one answer where both tests hold, and the other where one fails
module _ (k l : List Entry) where
  abbrev Ended : Bool
  Ended = eqb (differ k l) (length k) && eqb (differ k l) (length l)

  abbrev answer : Bool → Refusal
  answer b = cond b (refused done 0 0) (refused index_differs (differ k l) 0)

  compared_is : compared k l ≡ answer Ended
  unfolding compared
  compared_is = refl

  -- it is one of the two
  pub compared_one_of : (compared k l ≡ refused done 0 0) ⊎ ((d : ℕ) × (compared k l ≡ refused index_differs d 0))
  compared_one_of = go Ended compared_is
    where
      go : (b : Bool) → compared k l ≡ answer b → (compared k l ≡ refused done 0 0) ⊎ ((d : ℕ) × (compared k l ≡ refused index_differs d 0))
      go true e = inl e
      go false e = inr (differ k l, e)

  ended_same : Ended ≡ true → k ≡ l
  ended_same h =
      let z = both (eqb (differ k l) (length k)) (eqb (differ k l) (length l)) h in
      differ_ended k l (eqb-true _ _ z.0) (eqb-true _ _ z.1)

  to_same : compared k l ≡ refused done 0 0 → k ≡ l
  to_same h = go Ended refl (sym compared_is ∙ h)
    where
      go : (b : Bool) → Ended ≡ b → answer b ≡ refused done 0 0 → k ≡ l
      go true t e = ended_same t
      go false t e = absurd (let z : index_differs ≡ done = ap (λ (r : Refusal). r.number) e in omega arith)

  to_differ : (p : ℕ) → compared k l ≡ refused index_differs p 0 → DifferAt k l p
  to_differ p h = go Ended refl (sym compared_is ∙ h)
    where
      apart : Ended ≡ false → get_elem? k (differ k l) ≡ get_elem? l (differ k l) → ⊥
      apart t e =
          let z = differ_end k l e in
          let u : Ended ≡ true = rw (eq-eqb (differ k l) (length k) z.0, eq-eqb (differ k l) (length l) z.1) refl in
          true≢false (sym u ∙ t)

      go : (b : Bool) → Ended ≡ b → answer b ≡ refused index_differs p 0 → DifferAt k l p
      go true t e = absurd (let z : done ≡ index_differs = ap (λ (r : Refusal). r.number) e in omega arith)
      go false t e = let z : differ k l ≡ p = ap (λ (r : Refusal). r.place) e in rw (← z) (differ_before k l, apart t)

  of_differ : (p : ℕ) → DifferAt k l p → compared k l ≡ refused index_differs p 0
  of_differ p h = compared_is ∙ go Ended refl
    where
      go : (b : Bool) → Ended ≡ b → answer b ≡ refused index_differs p 0
      go true t = let z : k ≡ l = ended_same t in absurd (h.1 (ap (λ m. get_elem? m p) z))
      go false t = ap (λ d. refused index_differs d 0) (differ_is k l p h)

  pub compared_differ : (p : ℕ) → (compared k l ≡ refused index_differs p 0) ↔ DifferAt k l p
  compared_differ p = (to_differ p, of_differ p)

compared_self : (l : List Entry) → compared l l ≡ refused done 0 0
unfolding compared
compared_self l = rw (differ_self l, eq-eqb (length l) (length l) refl)

pub compared_same : (k l : List Entry) → (compared k l ≡ refused done 0 0) ↔ (k ≡ l)
compared_same k l = (to_same k l, λ e. ap (λ m. compared m l) e ∙ compared_self l)
