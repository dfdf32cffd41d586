-- What a call hands out is what comes back: an answer that is done has no line, and where nothing is written no place either.
use Prim.Native.Nat.{ℕ}
use mathlib.Core.Path.{◌≡◌, refl}
use mathlib.Core.Bool.{Bool, true, false, cond, ◌&&◌}
use mathlib.Core.List.{List}
use native.Mathlib.Omega.{arith}
use borrow.Author.Tests.{eqb-true}
use lib.Dec.{eqb, leb, ltb}
use lib.ListN.{length, get_or}
use Rattle.std.specs.Prelude.{Ok, Err}
use Rattle.refusal.specs.declared.Refusal.{Refusal}
use Rattle.refusal.specs.Table.{refused, done, record_room, text_room, not_whole, wrong_record, lacking, index_differs, outcome, judgement}
use Rattle.rowfile.specs.Rows.{whole}
use Rattle.record.specs.declared.Record.{Record}
use Rattle.grammar.specs.Reading.{Reading, records, refusal_of, reading}
use Rattle.file.specs.File.{held}
use Rattle.file.specs.File as F
use Rattle.reader.specs.Answered.{answered}
use Rattle.verdict.specs.Verdict.{first, wrong, lacks, blank, verdict, checked}
use Rattle.verdict.proofs.Read.{refusal_low}
use Rattle.render.specs.Written as W
use Rattle.entry.specs.declared.Entry.{Entry}
use Rattle.entry.specs.Entries.{held as held_entries}
use Rattle.index.specs.Index.{index_of}
use Rattle.index.specs.Answers.{or_else, in_rows, differ, built, compared, consulted}
use Rattle.index.specs.Queries as Q
use Rattle.index.specs.Many.{asked}
use Rattle.lef.specs.Border.{numbered, unwritten}

-- done without a line, and without a place
abbrev Lineless : Refusal → Type 0
Lineless r = r.number ≡ 0 → r.line ≡ 0

abbrev Bare : Refusal → Type 0
Bare r = r.number ≡ 0 → (r.place ≡ 0) × (r.line ≡ 0)

counts : (r : Refusal) → Lineless r → numbered (outcome r) ≡ r
counts r l = go (eqb r.number 0) refl
  where
    go : (b : Bool) → eqb r.number 0 ≡ b → numbered (cond b (Ok r.place) (Err r)) ≡ r
    go true e = let n = eqb-true r.number 0 e in rw (n, l n)
    go false e = refl

judges : (r : Refusal) → Bare r → numbered (unwritten (judgement r)) ≡ r
judges r l = go (eqb r.number 0) refl
  where
    go : (b : Bool) → eqb r.number 0 ≡ b → numbered (unwritten (cond b (Ok tt) (Err r))) ≡ r
    go true e = let n = eqb-true r.number 0 e in rw (n, (l n).0, (l n).1)
    go false e = refl

-- EACH ANSWER

-- a test of which one side refuses, or is done with a count
bare_or : (b : Bool) (n p : ℕ) (r : Refusal) → (n ≡ 0 → ⊥) → Bare r → Bare (cond b (refused n p 0) r)
bare_or true n p r f h = λ e. absurd (f e)
bare_or false n p r f h = h

or_bare : (b : Bool) (r : Refusal) (n p : ℕ) → Bare r → (n ≡ 0 → ⊥) → Bare (cond b r (refused n p 0))
or_bare true r n p h f = h
or_bare false r n p h f = λ e. absurd (f e)

lineless_or : (b : Bool) (m n p q : ℕ) → Lineless (cond b (refused m p 0) (refused n q 0))
lineless_or true m n p q = λ e. refl
lineless_or false m n p q = λ e. refl

first_bare : (r q : Refusal) → Bare r → Bare q → Bare (or_else r q)
first_bare r q h g = go (eqb r.number done)
  where
    go : (b : Bool) → Bare (cond b q r)
    go true = g
    go false = h

first_lineless : (r q : Refusal) → Bare r → Lineless q → Lineless (or_else r q)
first_lineless r q h g = go (eqb r.number done)
  where
    go : (b : Bool) → Lineless (cond b q r)
    go true = g
    go false = λ e. (h e).1

rows_bare : (n : ℕ) (file : List ℕ) → Bare (in_rows n file)
rows_bare n file = or_bare (whole n file) (refused done 0 0) not_whole (length file) (λ e. (refl, refl)) (λ e. omega (arith, e))

-- a reading's own refusal is never done
own : (s : List ℕ) (r : Refusal) → reading s ≡ refusal_of r → r.number ≡ 0 → ⊥
own s r e z = let low = refusal_low s r e in omega (arith, z, low.0)

verdict_bare : (rs fs : List Record) → Bare (verdict rs fs)
unfolding verdict
verdict_bare rs fs =
    let w = first (length fs) (wrong rs fs) in
    let k = first (length rs) (lacks rs fs) in
    let at = (get_or rs k blank).at in
    bare_or (ltb w (length fs)) wrong_record w (cond (ltb k (length rs)) (refused lacking at 0) (refused done 0 0)) (λ e. omega (arith, e))
    (bare_or (ltb k (length rs)) lacking at (refused done 0 0) (λ e. omega (arith, e)) (λ e. (refl, refl)))

module _ (s : List ℕ) where
  read_lineless : (n : ℕ) (x : Reading) → reading s ≡ x → Lineless (answered n x)
  read_lineless n (records rs) e = lineless_or (leb (length rs) n) done record_room (length rs) (length rs)
  read_lineless n (refusal_of r) e = λ z. absurd (own s r e z)

  pub read_back : (n : ℕ) → numbered (outcome (answered n (reading s))) ≡ answered n (reading s)
  read_back n = counts _ (read_lineless n (reading s) refl)

module _ (s file : List ℕ) where
  checked_bare : (x : Reading) → reading s ≡ x → Bare (checked x file)
  checked_bare (records rs) e =
      or_bare (F.whole file) (verdict rs (held file)) not_whole (length file) (verdict_bare rs (held file)) (λ z. omega (arith, z))
  checked_bare (refusal_of r) e = λ z. absurd (own s r e z)

  compared_bare : (k l : List Entry) → Bare (compared k l)
  unfolding compared
  compared_bare k l =
      let d = differ k l in
      or_bare (eqb d (length k) && eqb d (length l)) (refused done 0 0) index_differs d (λ e. (refl, refl)) (λ e. omega (arith, e))

  consulted_bare : (index : List ℕ) (x : Reading) → reading s ≡ x → Bare (consulted s x file index)
  consulted_bare index (records rs) e =
      first_bare (in_rows 36 file) _ (rows_bare 36 file)
      (first_bare (in_rows 16 index) _ (rows_bare 16 index)
      (first_bare (verdict rs (held file)) _ (verdict_bare rs (held file)) (compared_bare (held_entries index) (index_of s rs))))
  consulted_bare index (refusal_of r) e = λ z. absurd (own s r e z)

  built_lineless : (n : ℕ) (x : Reading) → reading s ≡ x → Lineless (built s x file n)
  built_lineless n (records rs) e =
      let needed = length (index_of s rs) in
      first_lineless (in_rows 36 file) _ (rows_bare 36 file)
      (first_lineless (verdict rs (held file)) _ (verdict_bare rs (held file)) (lineless_or (leb needed n) done record_room needed needed))
  built_lineless n (refusal_of r) e = λ z. absurd (own s r e z)

  asked_lineless : (index queries : List ℕ) (n : ℕ) (x : Reading) → reading s ≡ x → Lineless (asked s x file index queries n)
  asked_lineless index queries n (records rs) e =
      let needed = Q.count queries in
      first_lineless (in_rows 36 file) _ (rows_bare 36 file)
      (first_lineless (in_rows 16 index) _ (rows_bare 16 index)
      (first_lineless (in_rows 12 queries) _ (rows_bare 12 queries)
      (first_lineless (verdict rs (held file)) _ (verdict_bare rs (held file))
      (first_lineless (compared (held_entries index) (index_of s rs)) _ (compared_bare (held_entries index) (index_of s rs))
      (lineless_or (leb needed n) done record_room needed needed)))))
  asked_lineless index queries n (refusal_of r) e = λ z. absurd (own s r e z)

  written_lineless : (n : ℕ) → Lineless (W.written s file n)
  unfolding W.written
  written_lineless n = go (eqb (checked (reading s) file).number done)
    where
      needed : ℕ
      needed = length (W.canonical s)

      go : (b : Bool) → Lineless (cond b (W.room_for (W.canonical s) n) (checked (reading s) file))
      go true = lineless_or (leb needed n) done text_room needed needed
      go false = λ z. (checked_bare (reading s) refl z).1

  -- WHAT COMES BACK OF EACH CALL

  pub check_back : numbered (unwritten (judgement (checked (reading s) file))) ≡ checked (reading s) file
  check_back = judges _ (checked_bare (reading s) refl)

  pub write_back : (n : ℕ) → numbered (outcome (W.written s file n)) ≡ W.written s file n
  write_back n = counts _ (written_lineless n)

  pub build_back : (n : ℕ) → numbered (outcome (built s (reading s) file n)) ≡ built s (reading s) file n
  build_back n = counts _ (built_lineless n (reading s) refl)

  pub consult_back : (index : List ℕ) → numbered (unwritten (judgement (consulted s (reading s) file index))) ≡ consulted s (reading s) file index
  consult_back index = judges _ (consulted_bare index (reading s) refl)

  pub ask_back : (index queries : List ℕ) (n : ℕ)
      → numbered (outcome (asked s (reading s) file index queries n)) ≡ asked s (reading s) file index queries n
  ask_back index queries n = counts _ (asked_lineless index queries n (reading s) refl)
