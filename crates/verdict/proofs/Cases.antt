-- Each answer of the verdict is given exactly where the records are as it says: the tests of the definition decide what they name.
use Prim.Native.Nat.{ℕ, ◌≤◌, ◌<◌}
use native.Mathlib.Decide.{dec_lt}
use native.Mathlib.Omega.{arith}
use mathlib.Core.Path.{◌≡◌, refl, sym, ap, ◌∙◌}
use mathlib.Core.Logic.{◌↔◌, ◌⊎◌, inl, inr}
use mathlib.Core.Bool.{Bool, true, false, cond, not, ◌||◌, true≢false, false≢true, or-true}
use mathlib.Core.List.{List}
use lib.Dec.{ltb}
use lib.ListN.{length, take}
use borrow.Author.Tests.{lt-ltb, le-ltb, ltb-true, ltb-false}
use Rattle.refusal.specs.declared.Refusal.{Refusal}
use Rattle.refusal.specs.Table.{refused, done, wrong_record, lacking}
use Rattle.record.specs.declared.Record.{Record}
use Rattle.verdict.specs.Verdict.{among, first, wrong, lacks, verdict}
use Rattle.verdict.specs.Meaning.{nth, In, Faulty, Lacking, First, None}
use Rattle.verdict.proofs.Laws.{among_in, among_not, in_among, not_among, take_length, take_at, first_is, first_before, first_at}

-- A TEST p THAT DECIDES P

module _ (n : ℕ) (p : ℕ → Bool) (P : ℕ → Type 0) (so : (i : ℕ) → i < n → p i ≡ true → P i) (back : (i : ℕ) → i < n → P i → p i ≡ true) where
  untrue : (i : ℕ) → i < n → (P i → ⊥) → p i ≡ false
  untrue i h q = go (p i) refl
    where
      go : (b : Bool) → p i ≡ b → b ≡ false
      go true e = absurd (q (so i h e))
      go false e = refl

  pub is_first : first n p < n → First n P (first n p)
  is_first l = (l, so (first n p) l (first_at n p l), λ j h q. true≢false (sym (back j (omega arith) q) ∙ first_before n p j h))

  pub is_none : n ≤ first n p → None n P
  is_none l j h q = true≢false (sym (back j h q) ∙ first_before n p j (omega arith))

  pub first_found : (i : ℕ) → First n P i → first n p ≡ i
  first_found i f = first_is n p i (omega (arith, f.0)) (λ j h. untrue j (omega (arith, f.0)) (f.2 j h)) (λ h. back i h f.1)

  pub none_found : None n P → first n p ≡ n
  none_found f = first_is n p n (omega arith) (λ j h. untrue j h (f j h)) (λ h. absurd (omega arith))

-- THE TESTS OF THE VERDICT

module _ (rs fs : List Record) where
  earlier : (i : ℕ) → i < length fs → (x : Record) → In x (take i fs) → (j : ℕ) × (j < i) × (x ≡ nth fs j)
  earlier i h x m =
      let q : m.0 < i = rw (take_length fs i (omega arith)) at m.1 in
      (m.0, q, m.2 ∙ take_at fs i m.0 q)

  before : (i : ℕ) → i < length fs → (x : Record) → (j : ℕ) × (j < i) × (x ≡ nth fs j) → In x (take i fs)
  before i h x m = (m.0, rw (take_length fs i (omega arith)) m.1, m.2 ∙ sym (take_at fs i m.0 m.1))

  wrong_so : (i : ℕ) → i < length fs → wrong rs fs i ≡ true → Faulty rs fs i
  unfolding wrong
  wrong_so i h = go (among (nth fs i) rs) refl (among (nth fs i) (take i fs)) refl
    where
      go : (a : Bool) → among (nth fs i) rs ≡ a → (b : Bool) → among (nth fs i) (take i fs) ≡ b → (not a || b) ≡ true → Faulty rs fs i
      go false p b q e = inl (not_among (nth fs i) rs p)
      go true p true q e = inr (earlier i h (nth fs i) (in_among (nth fs i) (take i fs) q))
      go true p false q e = absurd (false≢true e)

  wrong_back : (i : ℕ) → i < length fs → Faulty rs fs i → wrong rs fs i ≡ true
  unfolding wrong
  wrong_back i h (inl f) = rw (among_not (nth fs i) rs f)
  wrong_back i h (inr m) = rw (among_in (nth fs i) (take i fs) (before i h (nth fs i) m)) (or-true (not (among (nth fs i) rs)))

  lacks_so : (k : ℕ) → k < length rs → lacks rs fs k ≡ true → Lacking rs fs k
  unfolding lacks
  lacks_so k h = go (among (nth rs k) fs) refl
    where
      go : (a : Bool) → among (nth rs k) fs ≡ a → not a ≡ true → Lacking rs fs k
      go true p e = absurd (false≢true e)
      go false p e = not_among (nth rs k) fs p

  lacks_back : (k : ℕ) → k < length rs → Lacking rs fs k → lacks rs fs k ≡ true
  unfolding lacks
  lacks_back k h f = rw (among_not (nth rs k) fs f)

  -- THE ANSWERS

  abbrev NoFault : Type 0
  NoFault = None (length fs) (Faulty rs fs)

  abbrev NoLack : Type 0
  NoLack = None (length rs) (Lacking rs fs)

  abbrev FirstLack : ℕ → Type 0
  FirstLack a = (k : ℕ) × First (length rs) (Lacking rs fs) k × ((nth rs k).at ≡ a)

  abbrev w : ℕ
  w = first (length fs) (wrong rs fs)

  abbrev k : ℕ
  k = first (length rs) (lacks rs fs)

  -- what holds of the three answers where each is given holds of the verdict
  by_cases : (Q : Refusal → Type 0)
      → (First (length fs) (Faulty rs fs) w → Q (refused wrong_record w 0))
      → (NoFault → First (length rs) (Lacking rs fs) k → Q (refused lacking (nth rs k).at 0))
      → (NoFault → NoLack → Q (refused done 0 0))
      → Q (verdict rs fs)
  unfolding verdict
  by_cases Q a b c = go (ltb w (length fs)) refl (ltb k (length rs)) refl
    where
      go : (p : Bool) → ltb w (length fs) ≡ p → (q : Bool) → ltb k (length rs) ≡ q
          → Q (cond p (refused wrong_record w 0) (cond q (refused lacking (nth rs k).at 0) (refused done 0 0)))
      go true e q f = a (is_first (length fs) (wrong rs fs) (Faulty rs fs) wrong_so wrong_back (ltb-true w (length fs) e))
      go false e true f = b (is_none (length fs) (wrong rs fs) (Faulty rs fs) wrong_so wrong_back (ltb-false w (length fs) e))
          (is_first (length rs) (lacks rs fs) (Lacking rs fs) lacks_so lacks_back (ltb-true k (length rs) f))
      go false e false f = c (is_none (length fs) (wrong rs fs) (Faulty rs fs) wrong_so wrong_back (ltb-false w (length fs) e))
          (is_none (length rs) (lacks rs fs) (Lacking rs fs) lacks_so lacks_back (ltb-false k (length rs) f))

  when_wrong : (i : ℕ) → First (length fs) (Faulty rs fs) i → verdict rs fs ≡ refused wrong_record i 0
  unfolding verdict
  when_wrong i f = rw (first_found (length fs) (wrong rs fs) (Faulty rs fs) wrong_so wrong_back i f, lt-ltb i (length fs) f.0)

  when_lacking : (a : ℕ) → NoFault × FirstLack a → verdict rs fs ≡ refused lacking a 0
  unfolding verdict
  when_lacking a (f, (j, g, e)) =
      rw (none_found (length fs) (wrong rs fs) (Faulty rs fs) wrong_so wrong_back f, le-ltb (length fs) (length fs) (omega arith))
      (rw (first_found (length rs) (lacks rs fs) (Lacking rs fs) lacks_so lacks_back j g, lt-ltb j (length rs) g.0, e))

  when_done : NoFault × NoLack → verdict rs fs ≡ refused done 0 0
  unfolding verdict
  when_done (f, g) =
      rw (none_found (length fs) (wrong rs fs) (Faulty rs fs) wrong_so wrong_back f, le-ltb (length fs) (length fs) (omega arith))
      (rw (none_found (length rs) (lacks rs fs) (Lacking rs fs) lacks_so lacks_back g, le-ltb (length rs) (length rs) (omega arith)))

  other : (Q : Type 0) (n p m q : ℕ) → (n ≡ m → ⊥) → refused n p 0 ≡ refused m q 0 → Q
  other Q n p m q h e = absurd (h (ap (λ r. r.number) e))

  pub wrong_iff : (i : ℕ) → (verdict rs fs ≡ refused wrong_record i 0) ↔ First (length fs) (Faulty rs fs) i
  wrong_iff i = (
    by_cases (λ r. r ≡ refused wrong_record i 0 → First (length fs) (Faulty rs fs) i)
        (λ f e. let z : w ≡ i = ap (λ r. r.place) e in rw z at f)
        (λ f g. other _ lacking _ wrong_record i (λ z. omega arith))
        (λ f g. other _ done 0 wrong_record i (λ z. omega arith)),
    when_wrong i,
  )

  pub lacking_iff : (a : ℕ) → (verdict rs fs ≡ refused lacking a 0) ↔ (NoFault × FirstLack a)
  lacking_iff a = (
    by_cases (λ r. r ≡ refused lacking a 0 → NoFault × FirstLack a)
        (λ f. other _ wrong_record w lacking a (λ z. omega arith))
        (λ f g e. (f, (k, g, ap (λ r. r.place) e)))
        (λ f g. other _ done 0 lacking a (λ z. omega arith)),
    when_lacking a,
  )

  pub done_iff : (verdict rs fs ≡ refused done 0 0) ↔ (NoFault × NoLack)
  done_iff = (
    by_cases (λ r. r ≡ refused done 0 0 → NoFault × NoLack)
        (λ f. other _ wrong_record w done 0 (λ z. omega arith))
        (λ f g. other _ lacking _ done 0 (λ z. omega arith))
        (λ f g e. (f, g)),
    when_done,
  )

  -- the verdict is none of the other numbers
  pub verdict_number : (n : ℕ) → (n ≡ done → ⊥) → (n ≡ wrong_record → ⊥) → (n ≡ lacking → ⊥) → (verdict rs fs).number ≡ n → ⊥
  verdict_number n p q r = by_cases (λ v. v.number ≡ n → ⊥) (λ f e. q (sym e)) (λ f g e. r (sym e)) (λ f g e. p (sym e))

  -- the verdict is one of the three
  pub verdict_one_of : ((i : ℕ) × (verdict rs fs ≡ refused wrong_record i 0)) ⊎ (((a : ℕ) × (verdict rs fs ≡ refused lacking a 0)) ⊎ (verdict rs fs ≡ refused done 0 0))
  verdict_one_of = by_cases (λ r. ((i : ℕ) × (r ≡ refused wrong_record i 0)) ⊎ (((a : ℕ) × (r ≡ refused lacking a 0)) ⊎ (r ≡ refused done 0 0)))
      (λ f. inl (w, refl))
      (λ f g. inr (inl ((nth rs k).at, refl)))
      (λ f g. inr (inr refl))

  -- where there is a fault there is a first one
  pub first_fault : (j : ℕ) → j < length fs → Faulty rs fs j → (i : ℕ) × (i ≤ j) × First (length fs) (Faulty rs fs) i
  first_fault j h t = by_cases (λ r. (i : ℕ) × (i ≤ j) × First (length fs) (Faulty rs fs) i)
      (λ f. (w, elim (dec_lt j w) [ yes l ↦ absurd (f.2 j l t) | no l ↦ omega arith ], f))
      (λ f g. absurd (f j h t))
      (λ f g. absurd (f j h t))
