-- From the answer of checking the records to that of building an index: a refusal is handed on, and an accepted file has its index sorted into the front.
use Prim.Native.Nat.{ℕ, ◌*◌, ◌≤◌, ◌<◌}
use native.Mathlib.Omega.{arith}
use mathlib.Core.Path.{◌≡◌, sym, ap, subst, ◌∙◌}
use mathlib.Core.Logic.{⊎_elim}
use mathlib.Core.List.{List, ◌++◌}
use borrow.Author.Tests.{ne_eqb}
use lib.ListN.{length, take, drop}
use lib.Seq.{take_at, drop_at}
use Rattle.refusal.specs.declared.Refusal.{Refusal}
use Rattle.std.specs.Prelude.{Ok, Err}
use Rattle.refusal.specs.Table.{refused, done, record_room, outcome, judgement}
use Rattle.record.specs.declared.Record.{Record}
use Rattle.file.specs.File as records
use Rattle.grammar.specs.Reading.{reading}
use Rattle.ordered.proofs.Members.{perm_length}
use Rattle.entry.specs.declared.Entry.{Entry}
use Rattle.entry.specs.Entries.{count, encoded_all}
use Rattle.entry.proofs.Held.{all_length}
use Rattle.verdict.specs.Verdict.{checked}
use Rattle.verdict.specs.Meaning.{Reads, Accepted}
use Rattle.verdict.proofs.Read.{refusal_low}
use Rattle.verdict.proofs.Judged.{accepted_order}
use Rattle.verdict.proofs.Theorems as verdicts
use Rattle.index.specs.Index.{entries, index_of}
use Rattle.index.specs.Answers.{built, filled}
use Rattle.index.proofs.Laws.{index_permutes, any_order}
use Rattle.index.proofs.Theorems.{built_says, no_room_says, verdict_next}
use Rattle.sorter.specs.Heap.{Sorts}
use Rattle.indexer.proofs.Building.{sorted_bytes}
use Rattle.indexer.proofs.Judged.{judged_err, err_outcome}

abbrev number : Refusal → ℕ
number r = r.number

-- THE ANSWER OF CHECKING THE RECORDS

module _ (s file : List ℕ) where
  -- where its number is 0 they are accepted
  pub accepted_by : (checked (reading s) file).number ≡ 0 → Accepted s file
  accepted_by h =
      ⊎_elim (λ (q, e). absurd (omega (arith, refusal_low s q e, ap number (verdicts.refused_first s file q e))))
      (⊎_elim (λ e. absurd (omega (arith, ap number e)))
      (⊎_elim (λ (i, e). absurd (omega (arith, ap number e)))
      (⊎_elim (λ (a, e). absurd (omega (arith, ap number e))) (λ e. e))))
      (verdicts.one_of_five s file)

  -- a refusal is the answer of building too, and the buffer is left alone
  pub build_err : (e : Refusal) → Err e ≡ judgement (checked (reading s) file) → (buffer : List ℕ)
      → (Err e ≡ outcome (built s (reading s) file (count buffer))) × (buffer ≡ filled s (reading s) file buffer)
  unfolding filled
  build_err e h buffer =
      let (n, q) = judged_err _ e h in
      let b : built s (reading s) file (count buffer) ≡ checked (reading s) file = (verdict_next s file file (count buffer) (λ a. n (ap number a))).0 in
      (rw (b, q) (err_outcome e (λ z. n (ap number q ∙ z))), rw (b, ne_eqb _ _ n))

-- AN ACCEPTED FILE

module _ (s file : List ℕ) (a : Accepted s file) where
  abbrev es : List Entry
  es = entries (records.held file)

  -- the index has as many entries as the file
  pub index_length : (rs : List Record) → Reads s rs → length (index_of s rs) ≡ length es
  index_length rs e = ap length (sym (any_order s rs file e a)) ∙ perm_length (index_permutes s (records.held file))

  module _ (buffer : List ℕ) where
    abbrev answer : Refusal
    answer = built s (reading s) file (count buffer)

    pub no_room : count buffer < length es → (Err (refused record_room (length es) 0) ≡ outcome answer) × (buffer ≡ filled s (reading s) file buffer)
    unfolding filled
    no_room h =
        let (rs, e, w, p) = accepted_order s file a in
        let n = index_length rs e in
        let b : answer ≡ refused record_room (length es) 0 = (no_room_says s file (count buffer) (length es)).1 (rs, e, a, n, omega arith) in
        (rw b, rw b)

    pub room : length es ≤ count buffer → (out : List ℕ) → Sorts s (encoded_all es) out
        → (Ok (length es) ≡ outcome answer) × (out ++ drop (length (encoded_all es)) buffer ≡ filled s (reading s) file buffer)
    unfolding filled
    room h out sorts =
        let (rs, e, w, p) = accepted_order s file a in
        let n = index_length rs e in
        let b : answer ≡ refused done (length es) 0 = (built_says s file (count buffer) (length es)).1 (rs, e, a, n, omega arith) in
        let wide : length (encoded_all es) ≡ length (encoded_all (index_of s rs)) = all_length es ∙ ap (◌*◌ 16) (sym n) ∙ sym (all_length (index_of s rs)) in
        (rw b, rw b (rw (e, wide, sorted_bytes s rs file e a out sorts)))

    -- so it is where the front is sorted after the entries were laid there
    pub sorted_front : (n : ℕ) → n ≡ length es → n ≤ count buffer
        → (laid : List ℕ) → laid ≡ encoded_all es ++ drop (length (encoded_all es)) buffer
        → (out : List ℕ) → Sorts s (take (16 * n) laid) out
        → (Ok n ≡ outcome answer) × (out ++ drop (16 * n) laid ≡ filled s (reading s) file buffer)
    sorted_front n size h laid is out sorts =
        let wide : length (encoded_all es) ≡ 16 * n = all_length es ∙ ap (◌*◌ 16) (sym size) in
        let rest = drop (length (encoded_all es)) buffer in
        let front : take (16 * n) laid ≡ encoded_all es = ap (take (16 * n)) is ∙ take_at (encoded_all es) rest (16 * n) wide in
        let kept : drop (16 * n) laid ≡ rest = ap (drop (16 * n)) is ∙ drop_at (encoded_all es) rest (16 * n) wide in
        let r = room (omega arith) out (subst (λ l. Sorts s l out) front sorts) in
        (ap Ok size ∙ r.0, ap (◌++◌ out) kept ∙ r.1)

-- the front that is to be sorted is there
pub front_there : (es : List Entry) (buffer : List ℕ) (n : ℕ) → n ≡ length es
    → (laid : List ℕ) → laid ≡ encoded_all es ++ drop (length (encoded_all es)) buffer → 16 * n ≡ length (take (16 * n) laid)
front_there es buffer n size laid is =
    let wide : length (encoded_all es) ≡ 16 * n = all_length es ∙ ap (◌*◌ 16) (sym size) in
    sym (ap (λ l. length (take (16 * n) l)) is ∙ ap length (take_at (encoded_all es) (drop (length (encoded_all es)) buffer) (16 * n) wide) ∙ wide)
