-- An index beside an accepted file is the one that would be built where both end at the position at which they are found to differ.
use Prim.Native.Nat.{ℕ, ◌/◌, ◌≤◌, ◌<◌}
use native.Mathlib.Omega.{arith}
use mathlib.Core.Path.{◌≡◌, refl, sym, ap, ◌∙◌}
use mathlib.Core.Bool.{Bool, true, false, cond, ◌&&◌}
use mathlib.Core.List.{List}
use borrow.Author.Tests.{eq-eqb, eqb-true}
use lib.Dec.{eqb}
use lib.ListN.{length}
use Rattle.std.specs.Prelude.{Err}
use Rattle.refusal.specs.Table.{refused, done, index_differs, judgement}
use Rattle.file.specs.File as records
use Rattle.grammar.specs.Reading.{reading}
use Rattle.entry.specs.declared.Entry.{Entry}
use Rattle.entry.specs.Entries.{whole, held}
use Rattle.entry.proofs.Held.{held_length}
use Rattle.verdict.specs.Meaning.{Accepted}
use Rattle.verdict.proofs.Judged.{accepted_order}
use Rattle.index.specs.Index.{entries, index_of}
use Rattle.index.specs.Answers.{differ, compared, consulted}
use Rattle.index.proofs.Laws.{any_order}
use Rattle.index.proofs.Answered.{by_compared}
use Rattle.indexer.proofs.Answering.{index_length}
use Rattle.indexer.proofs.Judged.{fine}

module _ (s file index : List ℕ) (a : Accepted s file) (w : whole index ≡ true) (p : ℕ) (is : p ≡ differ (held index) (index_of s (records.held file))) where
  abbrev wanted : List Entry
  wanted = index_of s (records.held file)

  -- what comparing answers is the answer
  by_wanted : (n q : ℕ) → (1 ≤ n → 15 < n) → compared (held index) wanted ≡ refused n q 0 → refused n q 0 ≡ consulted s (reading s) file index
  by_wanted n q late h =
      let (rs, e, v, o) = accepted_order s file a in
      sym ((by_compared s file index n q late).1 (rs, e, a, w, rw (any_order s rs file e a) at h))

  wanted_length : length wanted ≡ length (entries (records.held file))
  wanted_length =
      let (rs, e, v, o) = accepted_order s file a in
      ap length (any_order s rs file e a) ∙ index_length s file a rs e

  pub same_index : p ≡ length index / 16 → p ≡ length (entries (records.held file)) → fine ≡ judgement (consulted s (reading s) file index)
  unfolding compared
  same_index h k =
      let g : eqb p (length (held index)) ≡ true = eq-eqb p (length (held index)) (h ∙ sym (held_length index)) in
      let l : eqb p (length wanted) ≡ true = eq-eqb p (length wanted) (k ∙ sym wanted_length) in
      ap judgement (by_wanted done 0 (λ z. omega arith) (rw (← is, g, l)))

  pub other_index : (p ≡ length index / 16 → p ≡ length (entries (records.held file)) → ⊥) → Err (refused index_differs p 0) ≡ judgement (consulted s (reading s) file index)
  unfolding compared
  other_index h = ap judgement (by_wanted index_differs p (λ z. omega arith) (rw (← is) (go (eqb p (length (held index))) (eqb p (length wanted)) refl refl)))
    where
      go : (b c : Bool) → eqb p (length (held index)) ≡ b → eqb p (length wanted) ≡ c
          → cond (b && c) (refused done 0 0) (refused index_differs p 0) ≡ refused index_differs p 0
      go true true u v = absurd (h (eqb-true p (length (held index)) u ∙ held_length index) (eqb-true p (length wanted) v ∙ wanted_length))
      go true false u v = refl
      go false true u v = refl
      go false false u v = refl
