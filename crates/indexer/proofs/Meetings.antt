-- What is met of the entries of the records in the front of the index that rises: the front grows by what comes next, and an entry that is
-- not where its key would stand is nowhere in it.
use Prim.Native.Nat.{ℕ, ◌+◌, ◌-◌, ◌≤◌, ◌<◌, min}
use native.Mathlib.Decide.{dec_lt}
use native.Mathlib.Omega.{arith}
use mathlib.Core.Path.{◌≡◌, refl, sym, ap, subst, ◌∙◌}
use mathlib.Core.Logic.{◌⊎◌, inl, inr, ⊎_elim}
use mathlib.Core.Bool.{true, ◌&&◌, true≢false}
use mathlib.Core.List.Memᴰ
use mathlib.Core.List.{List, [], ◌∷◌, ◌++◌, Memᴰ}
use lib.Dec.{eqb}
use borrow.Author.Tests.{eq-eqb}
use Rattle.entry.specs.declared.Entry.{Entry}
use Rattle.entry.specs.Order.{key_of, precedes}
use Rattle.entry.proofs.Ordered.{before_irreflexive, before_transitive}
use Rattle.std.specs.Prelude.{Option, Some, None}
use Rattle.std.specs.Option.{unwrap_or}
use Rattle.indexer.specs.Inner.{Rises, Lower, Stands, Lacks, Meeting}

-- THE FRONT THAT RISES

pub rises_one : (s : List ℕ) (f : ℕ → Entry) → Rises s f 1
rises_one s f i j p q = absurd (omega arith)

pub rises_more : (s : List ℕ) (f : ℕ → Entry) (n : ℕ) → 0 < n → Rises s f n → precedes s (f (n - 1)) (f n) ≡ true → Rises s f (n + 1)
rises_more s f n h r e i j p q = elim (dec_lt j n) [
  | yes a ↦ r i j p a
  | no a ↦ let z : j ≡ n = omega arith in rw z (elim (dec_lt i (n - 1)) [
    | yes b ↦ before_transitive (key_of s (f i)) (key_of s (f (n - 1))) (key_of s (f n)) (r i (n - 1) b (omega arith)) e
    | no b ↦ let y : i ≡ n - 1 = omega arith in rw y e
  ])
]

-- ONE ENTRY

-- an entry has the fields of the one that it is
pub equal_fields : (f e : Entry) → f ≡ e → (eqb f.owner e.owner && (eqb f.name e.name && (eqb f.len e.len && eqb f.at e.at))) ≡ true
equal_fields f e h =
    rw (eq-eqb f.owner e.owner (ap (λ x. x.owner) h), eq-eqb f.name e.name (ap (λ x. x.name) h), eq-eqb f.len e.len (ap (λ x. x.len) h), eq-eqb f.at e.at (ap (λ x. x.at) h))

module _ (s : List ℕ) (f : ℕ → Entry) (n : ℕ) (rises : Rises s f n) (e : Entry) (p : ℕ) (l : Lower s f n (key_of s e) p) where
  -- what is not where its key would stand is nowhere
  pub lacks_there : (p < n → f p ≡ e → ⊥) → Lacks f n e
  lacks_there h k kn q = elim (dec_lt k p) [
    | yes a ↦ true≢false (sym (l.below k a) ∙ ap (λ x. precedes s x e) q ∙ before_irreflexive (key_of s e))
    | no a ↦ elim (dec_lt p k) [
      | yes c ↦ true≢false (sym (rises p k c kn) ∙ ap (precedes s (f p)) q ∙ l.above p (omega arith) (omega arith))
      | no c ↦ let z : p ≡ k = omega arith in h (omega arith) (ap f z ∙ q)
    ]
  ]

-- ALL ENTRIES

pub none_met : (s : List ℕ) (f : ℕ → Entry) (n : ℕ) → Meeting s f n [] None
none_met s f n e m = absurd (Memᴰ.not-nil m)

module _ (s : List ℕ) (f : ℕ → Entry) (n : ℕ) (es : List Entry) (e : Entry) where
  -- one more that stands there
  pub met_there : (first : Option ℕ) → Meeting s f n es first → Stands f n e → Meeting s f n (es ++ e ∷ []) first
  met_there None m h =
      λ x i. ⊎_elim (λ j. m x j) (λ j. let q = Memᴰ.eq_of_singleton j in rw q h) (Memᴰ.append_cases es i)
  met_there (Some p) m h = record {
    each = λ x i. ⊎_elim (λ j. m.each x j) (λ j. let q = Memᴰ.eq_of_singleton j in inl (rw q h)) (Memᴰ.append_cases es i);
    there = let t = m.there in (t.0, Memᴰ.append_left (e ∷ []) t.1, t.2, t.3);
  }

  -- one more that does not: the lesser of the two places is the first gap
  pub met_missing : (first : Option ℕ) (p : ℕ) → Meeting s f n es first → Lacks f n e → Lower s f n (key_of s e) p → Meeting s f n (es ++ e ∷ []) (Some (min p (unwrap_or first p)))
  met_missing None p m g l = let z : min p p ≡ p = omega arith in rw z record {
    each = λ x i. ⊎_elim (λ j. inl (m x j)) (λ j. let q = Memᴰ.eq_of_singleton j in inr (λ k t. rw q (l.below k t))) (Memᴰ.append_cases es i);
    there = (e, Memᴰ.append_right es (Memᴰ.head refl), g, l);
  }
  met_missing (Some q) p m g l = record {
    each = λ x i.
        ⊎_elim (λ j. ⊎_elim inl (λ t. inr (λ k h. t k (omega arith))) (m.each x j))
        (λ j. let z = Memᴰ.eq_of_singleton j in inr (λ k t. rw z (l.below k (omega arith)))) (Memᴰ.append_cases es i);
    there = elim (dec_lt p q) [
      | yes h ↦ let z : min p q ≡ p = omega arith in (e, Memᴰ.append_right es (Memᴰ.head refl), g, subst (Lower s f n (key_of s e)) (sym z) l)
      | no h ↦
          let z : min p q ≡ q = omega arith in
          let t = m.there in
          (t.0, Memᴰ.append_left (e ∷ []) t.1, t.2, subst (Lower s f n (key_of s t.0)) (sym z) t.3)
    ];
  }

-- WHERE THE COUNTS ARE TO AGREE: up to the first gap, or over all of the front

pub gap_within : (s : List ℕ) (f : ℕ → Entry) (n : ℕ) (es : List Entry) (first : Option ℕ) → Meeting s f n es first → unwrap_or first n ≤ n
gap_within s f n es None m = omega arith
gap_within s f n es (Some p) m = m.there.3.within

pub gap_each : (s : List ℕ) (f : ℕ → Entry) (n : ℕ) (es : List Entry) (first : Option ℕ) → Meeting s f n es first
    → (e : Entry) → Memᴰ e es → Stands f n e ⊎ ((k : ℕ) → k < unwrap_or first n → precedes s (f k) e ≡ true)
gap_each s f n es None m e i = inl (m e i)
gap_each s f n es (Some p) m e i = m.each e i

pub gap_stop : (s : List ℕ) (f : ℕ → Entry) (n : ℕ) (es : List Entry) (first : Option ℕ) → Meeting s f n es first
    → unwrap_or first n < n → (e : Entry) × Memᴰ e es × Lacks f n e × Lower s f n (key_of s e) (unwrap_or first n)
gap_stop s f n es None m h = absurd (omega arith)
gap_stop s f n es (Some p) m h = m.there
