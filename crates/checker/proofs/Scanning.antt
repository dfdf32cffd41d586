-- One turn of each loop over a window: the halves of a search, and what one record more shows in a scan.
use Prim.Native.Nat.{ℕ, ◌+◌, ◌-◌, ◌≤◌, ◌<◌}
use native.Mathlib.Nat.{not-suc-le-zero}
use native.Mathlib.Decide.{dec_lt, ℕ_discrete}
use native.Mathlib.Omega.{arith}
use mathlib.Core.Path.{◌≡◌, refl, sym, ap, ◌∙◌}
use mathlib.Core.Bool.{Bool, true, false, ◌||◌, true≢false}
use mathlib.Core.Logic.{inr}
use mathlib.Core.List.{List}
use lib.Dec.{ltb}
use lib.ListN.{length, get_or, set, take, length-take}
use lib.Seq.{get_or-set_same, get_or-set_other, get_or-take}
use borrow.Author.Tests.{le-ltb, ltb-false}
use Rattle.std.specs.Prelude.{Option, Some, None, MatchOption}
use Rattle.std.specs.List.{AllWithin, HoldsAt}
use Rattle.record.specs.declared.Record.{Record}
use Rattle.verdict.specs.Facts.{Good, Wrong}
use Rattle.checker.specs.Windows.{Sorted, Lower, Finds, Inside, Scanned, Scans, AllClear, FirstClear, FirstUnmet, Windowed}

-- one more
pub more : (P : ℕ → Type 0) (i : ℕ) → ((k : ℕ) → k < i → P k) → P i → (k : ℕ) → k < i + 1 → P k
more P i h e k l = elim (dec_lt k i) [
  | yes p ↦ h k p
  | no q ↦ let z : k ≡ i = omega arith in rw z e
]

-- equal records have one `at`
pub same_at : {x y : Record} → x ≡ y → x.at ≡ y.at
same_at e = ap (λ r. r.at) e

-- THE SEARCH: what is known of one index is known of all, since `at` rises
pub lower_at : {w : ℕ → Record} {c x : ℕ} → Sorted w c → (p : ℕ) → p ≤ c → (0 < p → (w (p - 1)).at < x) → (p < c → x ≤ (w p).at) → Lower w c x p
lower_at {w} {c} {x} s p h before after = record {
  within = h;
  below = λ k l. elim (dec_lt k (p - 1)) [
    | yes q ↦ omega (arith, s k (p - 1) q (omega arith), before (omega arith))
    | no q ↦ let z : k ≡ p - 1 = omega arith in rw z (before (omega arith))
  ];
  above = λ k q l. elim (dec_lt p k) [
    | yes t ↦ omega (arith, s p k t l, after (omega arith))
    | no t ↦ let z : k ≡ p = omega arith in rw z (after (omega arith))
  ];
}

-- x is nowhere in the window, if it is not where its `at` would stand
pub nowhere : (w : ℕ → Record) (c p : ℕ) (x : Record) → Sorted w c → Lower w c x.at p → (p < c → x ≡ w p → ⊥) → Finds w c x None
nowhere w c p x s l h k kc e = elim (dec_lt k p) [
  | yes q ↦ omega (arith, l.below k q, same_at e)
  | no q ↦ elim (dec_lt p k) [
    | yes t ↦ omega (arith, l.above p (omega arith) (omega arith), s p k t kc, same_at e)
    | no t ↦ let z : k ≡ p = omega arith in h (omega arith) (rw z at e)
  ]
]

-- THE SCAN
pub scanned_start : {f w : ℕ → Record} {lo hi c : ℕ} {marks : List ℕ} → AllClear marks c → Scanned f w lo hi c marks 0
scanned_start h = record {
  good = λ j l. absurd (not-suc-le-zero l);
  clear = λ k l e j q. absurd (not-suc-le-zero q);
  marked = λ k l e. absurd (e (h k l));
}

module _ {f w : ℕ → Record} {lo hi c : ℕ} {marks : List ℕ} {i : ℕ} (s : Scanned f w lo hi c marks i) where
  -- a record outside of lo .. hi is not in the window
  pub scanned_skip : Inside w c lo hi → (lo ≤ (f i).at → (f i).at ≤ hi → ⊥) → Scanned f w lo hi c marks (i + 1)
  scanned_skip ins out = record {
    good = more (λ j. lo ≤ (f j).at → (f j).at ≤ hi → Good c w f j) i s.good (λ p q. absurd (out p q));
    clear = λ k l e.
        more (λ j. w k ≡ f j → ⊥) i (s.clear k l e) (λ q.
        out (omega (arith, (ins k l).0, same_at q)) (omega (arith, (ins k l).1, same_at q)));
    marked = λ k l e. let z = s.marked k l e in (z.0, omega (arith, z.1), z.2);
  }

  -- a record that is in the window and not marked is marked
  pub scanned_mark : {p : ℕ} → p < c → c ≤ length marks → f i ≡ w p → get_or marks p 0 ≡ 0 → Sorted w c → Scanned f w lo hi c (set marks p 1) (i + 1)
  scanned_mark {p} pc fits e z up = record {
    good = more (λ j. lo ≤ (f j).at → (f j).at ≤ hi → Good c w f j) i s.good
        (λ _ _. record { known = (p, pc, e); new = λ j l q. s.clear p pc z j l (sym e ∙ q) });
    clear = λ k l q. elim (ℕ_discrete k p) [
      | yes t ↦ absurd (one (rw t at q))
      | no t ↦ more (λ j. w k ≡ f j → ⊥) i (s.clear k l (sym (get_or-set_other marks p k 1 0 t) ∙ q)) (λ d. apart k l t (d ∙ e))
    ];
    marked = λ k l q. elim (ℕ_discrete k p) [
      | yes t ↦ (i, omega arith, ap w t ∙ sym e)
      | no t ↦ let m = s.marked k l (λ a. q (get_or-set_other marks p k 1 0 t ∙ a)) in (m.0, omega (arith, m.1), m.2)
    ];
  }
    where
      one : get_or (set marks p 1) p 0 ≡ 0 → ⊥
      one q = omega (arith, get_or-set_same marks p 1 0 (omega arith))

      apart : (k : ℕ) → k < c → (k ≡ p → ⊥) → w k ≡ w p → ⊥
      apart k l t d = elim (dec_lt k p) [
        | yes a ↦ omega (arith, up k p a pc, same_at d)
        | no a ↦ omega (arith, up p k (omega arith) l, same_at d)
      ]

  -- a record in the window that is marked stands earlier in the file
  pub scanned_again : {p : ℕ} → p < c → f i ≡ w p → (get_or marks p 0 ≡ 0 → ⊥) → Wrong c w f i
  scanned_again {p} pc e z = let m = s.marked p pc z in inr (m.0, m.1, e ∙ m.2)

-- a scan, and the first mark that it left clear
pub first_unmet : {f w : ℕ → Record} {lo hi c i : ℕ} {marks : List ℕ} → Scanned f w lo hi c marks i → (p : Option ℕ) → FirstClear marks c p → FirstUnmet f w c i p
first_unmet s (Some p) h = (h.0, λ k l. s.marked k (omega (arith, h.0)) (h.1 k l), s.clear p h.0 h.2)
first_unmet s None h = λ k l. s.marked k l (h k l)

pub windowed : {f w : ℕ → Record} {lo hi c limit i : ℕ} {p : Option ℕ} {marks : List ℕ} → Scans f w lo hi c limit marks i → FirstClear marks c p → Windowed f w lo hi c limit i p
windowed {p = p} sc cl = record { within = sc.within; good = sc.scanned.good; stop = sc.stop; unmet = first_unmet sc.scanned p cl }

-- the first that is 0 of a part of the marks
pub first_clear : (marks : List ℕ) (c : ℕ) → c ≤ length marks → (r : Option ℕ)
    → MatchOption r (AllWithin (λ x. x ≡ 0 → ⊥) (take c marks) 0 (length (take c marks)))
    (λ i. (i < length (take c marks)) × HoldsAt (λ x. x ≡ 0) (take c marks) i × AllWithin (λ x. x ≡ 0 → ⊥) (take c marks) 0 i)
    → FirstClear marks c r
first_clear marks c h None m = λ k l e. m k 0 (omega arith) (omega (arith, length-take c marks)) (get_or-take c marks k 0 l ∙ e)
first_clear marks c h (Some i) m =
    let l : i < c = omega (arith, length-take c marks, m.0) in
    (l, λ k q e. m.2 k 0 (omega arith) q (get_or-take c marks k 0 (omega arith) ∙ e), sym (get_or-take c marks i 0 l) ∙ m.1 0)

-- the test of both ends of lo .. hi
pub outside : (x lo hi : ℕ) → (ltb x lo || ltb hi x) ≡ true → lo ≤ x → x ≤ hi → ⊥
outside x lo hi h p q = true≢false (sym h ∙ rw (le-ltb x lo p, le-ltb hi x q))

pub between : (x lo hi : ℕ) → (ltb x lo || ltb hi x) ≡ false → (lo ≤ x) × (x ≤ hi)
between x lo hi = go (ltb x lo) refl
  where
    go : (b : Bool) → ltb x lo ≡ b → (b || ltb hi x) ≡ false → (lo ≤ x) × (x ≤ hi)
    go true e h = absurd (true≢false h)
    go false e h = (ltb-false _ _ e, ltb-false _ _ h)
