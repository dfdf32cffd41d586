-- What one window more shows: a record of the file whose `at` is the window's can be equal to no other record of the reading.
use Prim.Native.Nat.{ℕ, ◌+◌, ◌-◌, ◌/◌, ◌≤◌, ◌<◌}
use native.Mathlib.Decide.{dec_lt}
use native.Mathlib.Nat.{not-suc-le-zero}
use native.Mathlib.Omega.{arith}
use mathlib.Core.Path.{◌≡◌, refl, sym, ap, ◌∙◌}
use mathlib.Core.Logic.{inl, inr}
use mathlib.Core.List.{List}
use lib.ListN.{length}
use Rattle.little.specs.Little.{Bytes}
use Rattle.std.specs.Prelude.{Option, Some, None}
use Rattle.refusal.specs.Table.{refused, done, wrong_record, lacking}
use Rattle.record.specs.declared.Record.{Record}
use Rattle.file.specs.File.{held, record_in}
use Rattle.file.proofs.Held.{held_length, front_at}
use Rattle.file.proofs.Fields.{at_small}
use Rattle.verdict.specs.Verdict.{blank, verdict}
use Rattle.verdict.specs.Meaning.{nth}
use Rattle.verdict.specs.Facts.{Met, Good, Wrong}
use Rattle.verdict.proofs.Bridge.{verdict_wrong, verdict_lacks, verdict_done}
use Rattle.checker.specs.declared.windows.Seen.{Seen}
use Rattle.checker.specs.Windows.{FirstUnmet, Windowed}
use Rattle.checker.specs.Covered.{Told, Covered, Fills}
use Rattle.checker.proofs.Scanning.{same_at}

-- before the first window
pub covered_start : (m n : ℕ) (r f : ℕ → Record) (s : Seen) → s.low ≡ 0 → s.limit ≡ n → s.lack ≡ None → Covered m n r f 0 s
covered_start m n r f s l e t = record {
  a_le = omega arith;
  under = λ k h. absurd (not-suc-le-zero h);
  over = λ k h q. omega arith;
  limit_le = omega arith;
  good = λ j h q. absurd (omega arith);
  wrong = λ h. absurd (omega arith);
  told = λ _. rw t (λ k h. absurd (not-suc-le-zero h));
}

-- the `at` of the first lacking, after a window whose first record that was not met is given
abbrev pub lack_after : (ℕ → Record) → Option ℕ → Option ℕ → Option ℕ
lack_after w (Some x) p = Some x
lack_after w None (Some k) = Some (w k).at
lack_after w None None = None

module _ {m n : ℕ} {r f w : ℕ → Record} {a c hi i : ℕ} {p : Option ℕ} {s : Seen}
    (cov : Covered m n r f a s) (fl : Fills m r w a c hi) (win : Windowed f w s.low hi c s.limit i p) where
  good_of : (j : ℕ) → Good c w f j → Good m r f j
  good_of j g =
      let z = g.known in
      record { known = (a + z.0, omega (arith, z.1, fl.fits), z.2 ∙ fl.filled z.0 z.1); new = g.new }

  -- a record of the reading with its `at` in the window's range is in the window
  inside : (k : ℕ) → k < m → s.low ≤ (r k).at → (r k).at ≤ hi → (a ≤ k) × (k < a + c)
  inside k l p q = (
    elim (dec_lt k a) [
      | yes t ↦ absurd (omega (arith, cov.under k t))
      | no t ↦ omega arith
    ],
    elim (dec_lt k (a + c)) [
      | yes t ↦ t
      | no t ↦ absurd (omega (arith, fl.later k (omega arith) l))
    ],
  )

  wrong_of : s.low ≤ (f i).at → (f i).at ≤ hi → Wrong c w f i → Wrong m r f i
  wrong_of p q (inl h) = inl (λ k l e.
      let b = inside k l (omega (arith, same_at e)) (omega (arith, same_at e)) in
      let z : a + (k - a) ≡ k = omega arith in
      h (k - a) (omega arith) (e ∙ sym (rw z at (fl.filled (k - a) (omega arith)))))
  wrong_of p q (inr h) = inr h

  good_next : (j : ℕ) → j < i → (f j).at < hi + 1 → Good m r f j
  good_next j l h = elim (dec_lt (f j).at s.low) [
    | yes q ↦ cov.good j (omega (arith, win.within)) q
    | no q ↦ good_of j (win.good j l (omega arith) (omega arith))
  ]

  wrong_next : i < n → Wrong m r f i
  wrong_next l = elim (dec_lt i s.limit) [
    | yes q ↦ let z = win.stop q in wrong_of z.0 z.1 z.2
    | no q ↦ let z : i ≡ s.limit = omega (arith, win.within) in rw z (cov.wrong (omega arith))
  ]

  before : i ≡ n → Told n r f a s.lack
  before e = cov.told (omega (arith, win.within, cov.limit_le))

  -- the first q of the window are met, and so all of the reading before them, where nothing was lacking
  met_next : i ≡ n → s.lack ≡ None → (q : ℕ) → q ≤ c → ((k : ℕ) → k < q → Met i f (w k)) → (k : ℕ) → k < a + q → Met n f (r k)
  met_next e t q qc met k h = elim (dec_lt k a) [
    | yes l ↦ rw t at (before e) k l
    | no l ↦
        let z : a + (k - a) ≡ k = omega arith in
        let y = rw e at (met (k - a) (omega arith)) in
        (y.0, y.1, rw z at (sym (fl.filled (k - a) (omega arith))) ∙ y.2)
  ]

  -- what is told after the window: an earlier record is the first lacking; or one of the window is; or none is
  pub told_next : i ≡ n → Told n r f (a + c) (lack_after w s.lack p)
  told_next e = go s.lack p refl refl
    where
      go : (x q : Option ℕ) → s.lack ≡ x → p ≡ q → Told n r f (a + c) (lack_after w x q)
      go (Some x) q t g = let z : Told n r f a (Some x) = rw t at (before e) in (z.0, omega (arith, z.1), z.2, z.3, z.4)
      go None (Some k) t g =
          let u : FirstUnmet f w c i (Some k) = rw g at win.unmet in
          let z = fl.filled k u.0 in (
            a + k,
            omega (arith, u.0),
            same_at z,
            λ j l y. u.2 j (omega arith) (z ∙ y),
            met_next e t k (omega (arith, u.0)) u.1,
          )
      go None None t g = let u : FirstUnmet f w c i None = rw g at win.unmet in met_next e t c (omega arith) u

  pub covered_next : (x : Option ℕ) → (i ≡ n → Told n r f (a + c) x) → Covered m n r f (a + c) (record { low = hi + 1; limit = i; lack = x })
  covered_next x told = record {
    a_le = fl.fits;
    under = λ k h. omega (arith, fl.last k h);
    over = λ k h q. omega (arith, fl.later k h q);
    limit_le = omega (arith, win.within, cov.limit_le);
    good = good_next;
    wrong = wrong_next;
    told = told;
  }

-- THE VERDICT, when all of the reading has been in a window
module _ (rs : List Record) (file : List ℕ) (b : Bytes file) (s : Seen) (low : 4294967296 ≤ s.low)
    (cov : Covered (length rs) (length file / 36) (nth rs) (record_in file) (length rs) s) where
  each : (i : ℕ) → i < length file / 36 → nth (held file) i ≡ record_in file i
  each i h = front_at (length file / 36) file blank i h

  all_good : (j : ℕ) → j < s.limit → Good (length rs) (nth rs) (record_in file) j
  all_good j h = cov.good j h (omega (arith, at_small file j b))

  pub is_wrong : s.limit < length file / 36 → verdict rs (held file) ≡ refused wrong_record s.limit 0
  is_wrong h =
      verdict_wrong rs (held file) (length rs) (length file / 36) (nth rs) (record_in file) refl (held_length file) (λ k _. refl) each s.limit h
      all_good (cov.wrong h)

  pub is_lacking : length file / 36 ≤ s.limit → (x : ℕ) → s.lack ≡ Some x → verdict rs (held file) ≡ refused lacking x 0
  is_lacking h x t =
      let e : s.limit ≡ length file / 36 = omega (arith, cov.limit_le) in
      let z : Told (length file / 36) (nth rs) (record_in file) (length rs) (Some x) = rw t at (cov.told e) in
      verdict_lacks rs (held file) (length rs) (length file / 36) (nth rs) (record_in file) refl (held_length file) (λ k _. refl) each
      (λ j l. all_good j (omega arith)) z.0 z.1 z.4 z.3
      ∙ ap (λ x. refused lacking x 0) (sym z.2)

  pub is_done : length file / 36 ≤ s.limit → s.lack ≡ None → verdict rs (held file) ≡ refused done 0 0
  is_done h t =
      let e : s.limit ≡ length file / 36 = omega (arith, cov.limit_le) in
      verdict_done rs (held file) (length rs) (length file / 36) (nth rs) (record_in file) refl (held_length file) (λ k _. refl) each
      (λ j l. all_good j (omega arith)) (rw t at (cov.told e))
