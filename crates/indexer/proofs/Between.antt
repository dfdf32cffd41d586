-- 13 for one file more comes in between: what is refused with a number below 14 stays before it, and what is refused from 14 on stays behind it.
use Prim.Native.Nat.{ℕ, ◌<◌}
use native.Mathlib.Decide.{dec_lt}
use native.Mathlib.Omega.{arith}
use mathlib.Core.Path.{◌≡◌, refl, sym, ap, ◌∙◌}
use mathlib.Core.Logic.{⊎_elim}
use mathlib.Core.Bool.{Bool, true, false, cond, ◌&&◌, ◌||◌}
use mathlib.Core.List.{List}
use borrow.Author.Tests.{eq-eqb, ne_eqb, lt-ltb, le-ltb, ltb-true}
use lib.Dec.{eqb, ltb}
use lib.ListN.{length}
use Rattle.refusal.specs.declared.Refusal.{Refusal}
use Rattle.refusal.specs.Table.{refused, done, not_whole, wrong_record, judgement}
use Rattle.rowfile.specs.Rows as rows
use Rattle.record.specs.declared.Record.{Record}
use Rattle.file.specs.File as records-file
use Rattle.grammar.specs.Reading.{Reading, records, refusal_of, reading}
use Rattle.verdict.specs.Verdict.{verdict, checked}
use Rattle.verdict.proofs.Read.{refusal_low}
use Rattle.verdict.proofs.Cases.{verdict_one_of}
use Rattle.entry.specs.declared.Entry.{Entry}
use Rattle.entry.specs.Entries.{whole, held}
use Rattle.index.specs.Index.{index_of}
use Rattle.index.specs.Answers.{or_else, in_rows, room_for, compared, consulted}
use Rattle.index.specs.Queries.{count}
use Rattle.index.specs.Many.{asked}
use Rattle.index.proofs.Compared.{both, compared_one_of}
use Rattle.index.proofs.Answered.{behind}
use Rattle.std.specs.Prelude.{Result, Err, ⊤}
use Rattle.indexer.specs.Inner.{between}
use Rattle.indexer.proofs.Judged.{fine, judged_err, judged_ok, err_judged}

-- WHICH NUMBERS AN ANSWER HAS

abbrev Early : Refusal → Type 0
Early r = r.number < 14

abbrev Late : Refusal → Type 0
Late r = r.number < 14 → r.number ≡ 0

rows_early : (width : ℕ) (file : List ℕ) → Early (in_rows width file)
rows_early width file = go (rows.whole width file)
  where
    go : (b : Bool) → Early (cond b (refused done 0 0) (refused not_whole (length file) 0))
    go true = omega arith
    go false = omega arith

verdict_late : (rs fs : List Record) → Late (verdict rs fs)
verdict_late rs fs =
    ⊎_elim (λ (i, z). rw z (λ h. absurd (omega arith))) (⊎_elim (λ (a, z). rw z (λ h. absurd (omega arith))) (λ z. rw z (λ h. refl))) (verdict_one_of rs fs)

compared_late : (k l : List Entry) → Late (compared k l)
compared_late k l = ⊎_elim (λ z. rw z (λ h. refl)) (λ (d, z). rw z (λ h. absurd (omega arith))) (compared_one_of k l)

either_of : (P : Refusal → Type 0) (a b : Refusal) → P a → P b → P (or_else a b)
either_of P a b p q = go (eqb a.number done)
  where
    go : (t : Bool) → P (cond t b a)
    go true = q
    go false = p

-- THE ANSWER IN BETWEEN

module _ (r : Refusal) (file : List ℕ) (width : ℕ) where
  abbrev first : Bool
  first = ltb 0 r.number && ltb r.number wrong_record

  -- the answer, with the file's 13 in between
  after : Refusal
  after = cond first r (or_else (in_rows width file) r)

  -- as a Result that is what the code puts in between
  between_judged : between (judgement r) file width ≡ judgement after
  unfolding between after
  between_judged = elim (dec_lt 0 r.number) [
    | yes n ↦ rw (lt-ltb 0 r.number n, ne_eqb r.number done (λ z. omega arith)) (refusing (ne_eqb r.number done (λ z. omega arith)) (ltb r.number wrong_record) (rows.whole width file))
    | no n ↦ rw (le-ltb 0 r.number (omega arith), eq-eqb r.number done (omega arith)) (passing (eq-eqb r.number done (omega arith)) (rows.whole width file))
  ]
    where
      refusing : eqb r.number done ≡ false → (b w : Bool) → cond (b || w) (Err r) (Err (refused not_whole (length file) 0)) ≡ judgement (cond b r (or_else (cond w (refused done 0 0) (refused not_whole (length file) 0)) r))
      refusing z true w = rw z
      refusing z false true = rw z
      refusing z false false = refl

      passing : eqb r.number done ≡ true → (w : Bool) → cond w fine (Err (refused not_whole (length file) 0)) ≡ judgement (or_else (cond w (refused done 0 0) (refused not_whole (length file) 0)) r)
      passing z true = rw z
      passing z false = refl

  -- an early refusal is given first
  early_first : (r.number ≡ 0 → ⊥) → Early r → after ≡ r
  unfolding after
  early_first h l = rw (lt-ltb 0 r.number (omega (arith, h)), lt-ltb r.number wrong_record l)

  late_behind : Late r → first ≡ false
  late_behind l = elim (dec_lt 0 r.number) [
    | yes n ↦ elim (dec_lt r.number wrong_record) [
      | yes m ↦ absurd (omega (arith, l m))
      | no m ↦ rw (lt-ltb 0 r.number n, le-ltb r.number wrong_record (omega arith))
    ]
    | no n ↦ rw (le-ltb 0 r.number (omega arith))
  ]

  -- any other comes behind the file
  late_last : Late r → after ≡ or_else (in_rows width file) r
  unfolding after
  late_last l = rw (late_behind l)

  -- no refusal: the answer was none, and the file is in whole rows
  none_between : after.number ≡ 0 → (r.number ≡ 0) × (rows.whole width file ≡ true)
  unfolding after
  none_between = go first (rows.whole width file) refl refl
    where
      go : (b c : Bool) → first ≡ b → rows.whole width file ≡ c
          → (cond b r (or_else (cond c (refused done 0 0) (refused not_whole (length file) 0)) r)).number ≡ 0 → (r.number ≡ 0) × (rows.whole width file ≡ true)
      go true c e f h = absurd (omega (arith, ltb-true 0 r.number (both (ltb 0 r.number) (ltb r.number wrong_record) e).0))
      go false true e f h = (h, f)
      go false false e f h = absurd (omega arith)

-- between an early answer and a late one
inserted : (a v x : Refusal) (file : List ℕ) (width : ℕ) → Early a → Late v
    → or_else (after (or_else a v) file width) x ≡ or_else a (or_else (in_rows width file) (or_else v x))
inserted a v x file width early late = elim (dec_lt 0 a.number) [
  | yes n ↦
      let t : eqb a.number done ≡ false = ne_eqb a.number done (λ z. omega arith) in
      rw t (rw (early_first a file width (λ z. omega arith) early) (rw t))
  | no n ↦
      let t : eqb a.number done ≡ true = eq-eqb a.number done (omega arith) in
      rw t (ap (λ r. or_else r x) (late_last v file width late) ∙ behind (in_rows width file) v x)
]

-- a refusal stays, whatever follows
stays : (r x : Refusal) → (r.number ≡ 0 → ⊥) → or_else r x ≡ r
stays r x h = rw (ne_eqb r.number done h)

-- CHECKING AN INDEX: 13 for it comes between those of checking the records

module _ (s file index : List ℕ) (r : Refusal) (is : r ≡ after (checked (reading s) file) index 16) where
  check_refused : (r.number ≡ 0 → ⊥) → r ≡ consulted s (reading s) file index
  check_refused h = of (reading s) refl is
    where
      rest : (rs : List Record) → checked (records rs) file ≡ or_else (in_rows 36 file) (verdict rs (records-file.held file))
      rest rs = go (records-file.whole file)
        where
          go : (b : Bool) → cond b (verdict rs (records-file.held file)) (refused not_whole (length file) 0)
              ≡ or_else (cond b (refused done 0 0) (refused not_whole (length file) 0)) (verdict rs (records-file.held file))
          go true = refl
          go false = refl

      of : (o : Reading) → reading s ≡ o → r ≡ after (checked o file) index 16 → r ≡ consulted s o file index
      of (refusal_of q) e t = let l = refusal_low s q e in t ∙ early_first q index 16 (λ z. omega arith) (omega arith)
      of (records rs) e t =
          let v = verdict rs (records-file.held file) in
          let x = compared (held index) (index_of s rs) in
          sym (stays r x h)
          ∙ ap (λ q. or_else q x) (t ∙ ap (λ q. after q index 16) (rest rs))
          ∙ inserted (in_rows 36 file) v x index 16 (rows_early 36 file) (verdict_late rs (records-file.held file))

  check_passed : r.number ≡ 0 → ((checked (reading s) file).number ≡ 0) × (whole index ≡ true)
  check_passed h = none_between (checked (reading s) file) index 16 (rw is at h)

-- MANY LOOK-UPS: 13 for the queries comes between those of checking the index, and 11 comes last

module _ (s file index queries : List ℕ) (n : ℕ) (r : Refusal) (is : r ≡ after (consulted s (reading s) file index) queries 12) where
  abbrev last : Refusal
  last = room_for (count queries) n

  through : or_else r last ≡ asked s (reading s) file index queries n
  through = of (reading s) refl is
    where
      of : (o : Reading) → reading s ≡ o → r ≡ after (consulted s o file index) queries 12 → or_else r last ≡ asked s o file index queries n
      of (refusal_of q) e t =
          let l = refusal_low s q e in
          ap (λ p. or_else p last) (t ∙ early_first q queries 12 (λ z. omega arith) (omega arith)) ∙ stays q last (λ z. omega arith)
      of (records rs) e t =
          let a = in_rows 36 file in
          let b = in_rows 16 index in
          let v = verdict rs (records-file.held file) in
          let c = compared (held index) (index_of s rs) in
          ap (λ q. or_else q last) (t ∙ ap (λ q. after q queries 12) (sym (behind a b (or_else v c))))
          ∙ inserted (or_else a b) (or_else v c) last queries 12
          (either_of Early a b (rows_early 36 file) (rows_early 16 index))
          (either_of Late v c (verdict_late rs (records-file.held file)) (compared_late (held index) (index_of s rs)))
          ∙ behind a b (or_else (in_rows 12 queries) (or_else (or_else v c) last))
          ∙ ap (λ q. or_else a (or_else b (or_else (in_rows 12 queries) q))) (behind v c last)

  asked_refused : (r.number ≡ 0 → ⊥) → r ≡ asked s (reading s) file index queries n
  asked_refused h = sym (stays r last h) ∙ through

  asked_passed : r.number ≡ 0 → ((consulted s (reading s) file index).number ≡ 0) × (last ≡ asked s (reading s) file index queries n)
  asked_passed h = ((none_between (consulted s (reading s) file index) queries 12 (rw is at h)).0, rw h at through)

-- WHAT THE CALLS HAND ON

module _ (s file index : List ℕ) (v : Result ⊤ Refusal) (is : v ≡ judgement (checked (reading s) file)) where
  put : between v index 16 ≡ judgement (after (checked (reading s) file) index 16)
  put = ap (λ a. between a index 16) is ∙ between_judged (checked (reading s) file) index 16

  pub check_err : (e : Refusal) → Err e ≡ between v index 16 → Err e ≡ judgement (consulted s (reading s) file index)
  check_err e h =
      let (n, q) = judged_err _ e (h ∙ put) in
      ap Err (sym q) ∙ err_judged _ n ∙ ap judgement (check_refused s file index _ refl n)

  pub check_ok : fine ≡ between v index 16 → ((checked (reading s) file).number ≡ 0) × (whole index ≡ true)
  check_ok h = check_passed s file index _ refl (judged_ok _ (h ∙ put))

module _ (s file index queries : List ℕ) (n : ℕ) (v : Result ⊤ Refusal) (is : v ≡ judgement (consulted s (reading s) file index)) where
  put_queries : between v queries 12 ≡ judgement (after (consulted s (reading s) file index) queries 12)
  put_queries = ap (λ a. between a queries 12) is ∙ between_judged (consulted s (reading s) file index) queries 12

  pub asked_err : (e : Refusal) → Err e ≡ between v queries 12 → ((asked s (reading s) file index queries n).number ≡ 0 → ⊥) × (asked s (reading s) file index queries n ≡ e)
  asked_err e h =
      let (z, q) = judged_err _ e (h ∙ put_queries) in
      let a = asked_refused s file index queries n _ refl z in
      ((λ y. z (ap (λ (r : Refusal). r.number) a ∙ y)), sym a ∙ q)

  pub asked_ok : fine ≡ between v queries 12
      → ((consulted s (reading s) file index).number ≡ 0) × (room_for (count queries) n ≡ asked s (reading s) file index queries n)
  asked_ok h = asked_passed s file index queries n _ refl (judged_ok _ (h ∙ put_queries))
