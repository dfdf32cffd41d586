-- A look-up answers where it is once the index is the one that would be built, and the refusal of the index before that.
use Prim.Native.Nat.{ℕ, ◌≤◌}
use native.Mathlib.Omega.{arith}
use mathlib.Core.Path.{◌≡◌, refl, sym, ap, ◌∙◌}
use mathlib.Core.Logic.{◌↔◌, ⊎_elim}
use mathlib.Core.Bool.{Bool, true, false, cond, ◌&&◌, false≢true}
use mathlib.Core.List.{List}
use lib.Dec.{eqb}
use lib.ListN.{length}
use Rattle.std.specs.Prelude.{Option, Some, None, Result, Ok, Err}
use borrow.Author.Tests.{eq-eqb, ne_eqb, eqb-true, eqb-false}
use Rattle.refusal.specs.declared.Refusal.{Refusal}
use Rattle.refusal.specs.Table.{refused, done, not_whole, index_differs}
use Rattle.rowfile.specs.Rows as rows
use Rattle.record.specs.declared.Record.{Record}
use Rattle.file.specs.File as records-file
use Rattle.grammar.specs.Reading.{Reading, records, refusal_of, reading}
use Rattle.verdict.specs.Verdict.{verdict}
use Rattle.verdict.specs.Meaning.{Reads}
use Rattle.verdict.proofs.Read.{refusal_low}
use Rattle.verdict.proofs.Cases.{verdict_one_of}
use Rattle.entry.specs.declared.Entry.{Entry}
use Rattle.entry.specs.Entries.{held}
use Rattle.index.specs.Index.{entries, index_of}
use Rattle.index.specs.Answers.{or_else, in_rows, differ, compared, consulted, no_place, sought, found, numbers}
use Rattle.index.proofs.Compared.{compared_same}
use Rattle.index.proofs.Least.{least_most}
use Rattle.index.proofs.Answered.{by_compared}

-- AN ANSWER OF NUMBER 0 is that of the last of the chain, and is 0 in every field

abbrev Nought : Refusal → Type 0
Nought r = r.number ≡ done → r ≡ refused done 0 0

rows_nought : (width : ℕ) (file : List ℕ) (x : Refusal) → Nought x → Nought (or_else (in_rows width file) x)
rows_nought width file x f = go (rows.whole width file)
  where
    go : (b : Bool) → Nought (or_else (cond b (refused done 0 0) (refused not_whole (length file) 0)) x)
    go true = f
    go false = λ h. absurd (omega arith)

verdict_nought : (rs fs : List Record) (x : Refusal) → Nought x → Nought (or_else (verdict rs fs) x)
verdict_nought rs fs x f =
    ⊎_elim (λ (i, z). rw z (λ h. absurd (omega arith))) (⊎_elim (λ (a, z). rw z (λ h. absurd (omega arith))) (λ z. rw z f)) (verdict_one_of rs fs)

compared_nought : (k l : List Entry) → Nought (compared k l)
unfolding compared
compared_nought k l = go (eqb (differ k l) (length k) && eqb (differ k l) (length l))
  where
    go : (b : Bool) → Nought (cond b (refused done 0 0) (refused index_differs (differ k l) 0))
    go true = λ h. refl
    go false = λ h. absurd (omega arith)

module _ (s file index : List ℕ) where
  pub consulted_nought : Nought (consulted s (reading s) file index)
  consulted_nought = of (reading s) refl
    where
      of : (o : Reading) → reading s ≡ o → Nought (consulted s o file index)
      of (refusal_of r) e = λ h. absurd (let l = refusal_low s r e in omega arith)
      of (records rs) e =
          rows_nought 36 file _ (rows_nought 16 index _ (verdict_nought rs (records-file.held file) _ (compared_nought (held index) (index_of s rs))))

  -- an index that is accepted holds the one of the reading
  pub consulted_held : (consulted s (reading s) file index).number ≡ done → (rs : List Record) × Reads s rs × (held index ≡ index_of s rs)
  consulted_held h =
      let (rs, q, a, w, e) = (by_compared s file index done 0 (λ k. omega arith)).0 (consulted_nought h) in
      (rs, q, (compared_same (held index) (index_of s rs)).0 e)

  -- LOOKING UP

  module _ (owner : ℕ) (name : List ℕ) where
    abbrev answer : Bool → Bool → Result (Option ℕ) Refusal
    answer b c = cond b (Ok (cond c None (Some (sought s owner name (reading s))))) (Err (consulted s (reading s) file index))

    abbrev fine : Bool
    fine = eqb (consulted s (reading s) file index).number done

    abbrev none : Bool
    none = eqb (sought s owner name (reading s)) no_place

    found_is : found s (reading s) file index owner name ≡ answer fine none
    unfolding found
    found_is = refl

    abbrev Fine : Type 0
    Fine = consulted s (reading s) file index ≡ refused done 0 0

    fine_true : Fine → fine ≡ true
    fine_true h = eq-eqb _ _ (ap (λ (r : Refusal). r.number) h)

    true_fine : fine ≡ true → Fine
    true_fine h = consulted_nought (eqb-true _ _ h)

    to_at : (a : ℕ) (b c : Bool) → fine ≡ b → none ≡ c → answer b c ≡ Ok (Some a) → Fine × (sought s owner name (reading s) ≡ a) × (a ≡ no_place → ⊥)
    to_at a true true p q h = cc
    to_at a true false p q h = let z : sought s owner name (reading s) ≡ a = cc in (true_fine p, z, λ e. eqb-false _ _ q (z ∙ e))
    to_at a false c p q h = cc

    to_nowhere : (b c : Bool) → fine ≡ b → none ≡ c → answer b c ≡ Ok None → Fine × (sought s owner name (reading s) ≡ no_place)
    to_nowhere true true p q h = (true_fine p, eqb-true _ _ q)
    to_nowhere true false p q h = cc
    to_nowhere false c p q h = cc

    to_refused : (r : Refusal) (b c : Bool) → fine ≡ b → none ≡ c → answer b c ≡ Err r → (Fine → ⊥) × (consulted s (reading s) file index ≡ r)
    to_refused r true true p q h = cc
    to_refused r true false p q h = cc
    to_refused r false c p q h = let z : consulted s (reading s) file index ≡ r = cc in (λ f. eqb-false _ _ p (ap (λ (x : Refusal). x.number) f), z)

    pub found_at : (a : ℕ) → (found s (reading s) file index owner name ≡ Ok (Some a)) ↔ (Fine × (sought s owner name (reading s) ≡ a) × (a ≡ no_place → ⊥))
    found_at a = (
      λ h. to_at a fine none refl refl (sym found_is ∙ h),
      λ (f, e, n). found_is ∙ rw (fine_true f, e, ne_eqb a no_place n),
    )

    pub found_nowhere : (found s (reading s) file index owner name ≡ Ok None) ↔ (Fine × (sought s owner name (reading s) ≡ no_place))
    found_nowhere = (λ h. to_nowhere fine none refl refl (sym found_is ∙ h), λ (f, e). found_is ∙ rw (fine_true f, e))

    pub found_refused : (r : Refusal) → (found s (reading s) file index owner name ≡ Err r) ↔ ((Fine → ⊥) × (consulted s (reading s) file index ≡ r))
    found_refused r = (
      λ h. to_refused r fine none refl refl (sym found_is ∙ h),
      λ (f, e). let z : fine ≡ false = ne_eqb _ _ (λ m. f (consulted_nought m)) in found_is ∙ rw z (ap Err e),
    )

    -- its `at` is what is sought
    pub found_sought : (consulted s (reading s) file index).number ≡ done → (numbers (found s (reading s) file index owner name)).at ≡ sought s owner name (reading s)
    found_sought h = rw found_is (go fine none (eq-eqb _ _ h) refl)
      where
        go : (b c : Bool) → b ≡ true → none ≡ c → (numbers (answer b c)).at ≡ sought s owner name (reading s)
        go true true t e = sym (eqb-true _ _ e)
        go true false t e = refl
        go false c t e = absurd (false≢true t)

    -- and it has four bytes, as that of a refusal
    pub found_most : (numbers (found s (reading s) file index owner name)).at ≤ no_place
    found_most = rw found_is (go fine none)
      where
        most : (o : Reading) → sought s owner name o ≤ no_place
        most (records rs) = least_most s owner name (entries rs)
        most (refusal_of r) = omega arith

        go : (b c : Bool) → (numbers (answer b c)).at ≤ no_place
        go true true = omega arith
        go true false = most (reading s)
        go false c = omega arith
