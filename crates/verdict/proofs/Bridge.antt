-- The verdict from facts on single records, since each test of the definition is one of these facts.
use Prim.Native.Nat.{ℕ, ◌≤◌, ◌<◌}
use native.Mathlib.Omega.{arith}
use mathlib.Core.Path.{◌≡◌, refl, sym, ap, ◌∙◌}
use mathlib.Core.Logic.{inl, inr}
use mathlib.Core.Bool.{true, false, not, or-true}
use mathlib.Core.List.{List}
use lib.ListN.{length, take}
use borrow.Author.Tests.{lt-ltb, le-ltb}
use Rattle.refusal.specs.Table.{refused, done, wrong_record, lacking}
use Rattle.record.specs.declared.Record.{Record}
use Rattle.verdict.specs.Verdict.{among, first, wrong, lacks, verdict}
use Rattle.verdict.specs.Meaning.{nth, Rises}
use Rattle.verdict.specs.Facts.{Met, Unmet, Good, Wrong}
use Rattle.verdict.proofs.Laws.{among_in, among_not, take_length, take_at, first_is}

-- what holds of the first n records of a function holds of the list that it gives
module _ (l : List Record) (n : ℕ) (f : ℕ → Record) (size : length l ≡ n) (each : (i : ℕ) → i < n → nth l i ≡ f i) where
  met : (x : Record) → Met n f x → among x l ≡ true
  met x m = among_in x l (m.0, rw size m.1, m.2 ∙ sym (each m.0 m.1))

  unmet : (x : Record) → Unmet n f x → among x l ≡ false
  unmet x u = among_not x l (λ m. let k : m.0 < n = rw size at m.1 in u m.0 k (m.2 ∙ each m.0 k))

  met_before : (i : ℕ) → i < n → (x : Record) → Met i f x → among x (take i l) ≡ true
  met_before i h x m =
      among_in x (take i l) (m.0, rw (take_length l i (omega arith)) m.1, m.2 ∙ sym (take_at l i m.0 m.1 ∙ each m.0 (omega (arith, m.1))))

  unmet_before : (i : ℕ) → i < n → (x : Record) → Unmet i f x → among x (take i l) ≡ false
  unmet_before i h x u =
      among_not x (take i l) (λ m.
      let q : m.0 < i = rw (take_length l i (omega arith)) at m.1 in
      u m.0 q (m.2 ∙ take_at l i m.0 q ∙ each m.0 (omega arith)))

module _ (rs fs : List Record) (m n : ℕ) (r f : ℕ → Record) (mr : length rs ≡ m) (nf : length fs ≡ n)
    (er : (k : ℕ) → k < m → nth rs k ≡ r k) (ef : (i : ℕ) → i < n → nth fs i ≡ f i) where
  pub good_wrong : (i : ℕ) → i < n → Good m r f i → wrong rs fs i ≡ false
  unfolding wrong
  good_wrong i h g = rw (ef i h) (rw (met rs m r mr er (f i) g.known, unmet_before fs n f nf ef i h (f i) g.new))

  pub wrong_wrong : (i : ℕ) → i < n → Wrong m r f i → wrong rs fs i ≡ true
  unfolding wrong
  wrong_wrong i h (inl u) = rw (ef i h) (rw (unmet rs m r mr er (f i) u))
  wrong_wrong i h (inr e) = rw (ef i h) (rw (met_before fs n f nf ef i h (f i) e) (or-true (not (among (f i) rs))))

  pub met_lacks : (k : ℕ) → k < m → Met n f (r k) → lacks rs fs k ≡ false
  unfolding lacks
  met_lacks k h e = rw (er k h) (rw (met fs n f nf ef (r k) e))

  pub unmet_lacks : (k : ℕ) → k < m → Unmet n f (r k) → lacks rs fs k ≡ true
  unfolding lacks
  unmet_lacks k h u = rw (er k h) (rw (unmet fs n f nf ef (r k) u))

  first_wrong : (i : ℕ) → i ≤ n → ((j : ℕ) → j < i → Good m r f j) → (i < n → Wrong m r f i) → first n (wrong rs fs) ≡ i
  first_wrong i l g w = first_is n (wrong rs fs) i l (λ j h. good_wrong j (omega arith) (g j h)) (λ h. wrong_wrong i h (w h))

  first_lacking : (k : ℕ) → k ≤ m → ((j : ℕ) → j < k → Met n f (r j)) → (k < m → Unmet n f (r k)) → first m (lacks rs fs) ≡ k
  first_lacking k l g u = first_is m (lacks rs fs) k l (λ j h. met_lacks j (omega arith) (g j h)) (λ h. unmet_lacks k h (u h))

  -- THE VERDICT BY ITS CASES

  pub verdict_wrong : (i : ℕ) → i < n → ((j : ℕ) → j < i → Good m r f j) → Wrong m r f i → verdict rs fs ≡ refused wrong_record i 0
  unfolding verdict
  verdict_wrong i l g w = rw nf (rw (first_wrong i (omega arith) g (λ _. w), lt-ltb i n l))

  pub verdict_lacks : ((j : ℕ) → j < n → Good m r f j) → (k : ℕ) → k < m → ((j : ℕ) → j < k → Met n f (r j)) → Unmet n f (r k)
      → verdict rs fs ≡ refused lacking (r k).at 0
  unfolding verdict
  verdict_lacks g k l h u =
      rw (nf, mr)
      (rw (first_wrong n (omega arith) g (λ l. absurd (omega arith)), le-ltb n n (omega arith), first_lacking k (omega arith) h (λ _. u), lt-ltb k m l, er k l))

  pub verdict_done : ((j : ℕ) → j < n → Good m r f j) → ((k : ℕ) → k < m → Met n f (r k)) → verdict rs fs ≡ refused done 0 0
  unfolding verdict
  verdict_done g h =
      rw (nf, mr)
      (rw (first_wrong n (omega arith) g (λ l. absurd (omega arith)), le-ltb n n (omega arith), first_lacking m (omega arith) h (λ l. absurd (omega arith)), le-ltb m m (omega arith)))

-- a file in the reading's own order
pub verdict_in_order : (rs fs : List Record) → Rises rs → fs ≡ rs
    → verdict rs fs ≡ refused done 0 0
verdict_in_order rs fs up e =
    ap (verdict rs) e
    ∙ verdict_done rs rs (length rs) (length rs) (nth rs) (nth rs) refl refl (λ k h. refl) (λ i h. refl)
    (λ j l. record {
      known = (j, l, refl);
      new = λ i h q. absurd (omega (arith, up i j h l, ap (λ x. x.at) q));
    })
    (λ k l. (k, l, refl))
