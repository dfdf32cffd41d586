-- From the answer to its cause: each refusal of the chain has a number of its own, so the answer tells which of them it was.
use Prim.Native.Nat.{ℕ, ◌≤◌, ◌<◌}
use native.Mathlib.Omega.{arith}
use mathlib.Core.Path.{◌≡◌, refl, sym, ap}
use mathlib.Core.Logic.{◌↔◌, ⊎_elim}
use mathlib.Core.Bool.{Bool, true, false, cond}
use mathlib.Core.List.{List}
use lib.Dec.{eqb, leb}
use lib.ListN.{length}
use borrow.Author.Tests.{le-leb, lt-leb, leb-true, leb-false}
use Rattle.refusal.specs.declared.Refusal.{Refusal}
use Rattle.refusal.specs.Table.{refused, done, record_room, not_whole, wrong_record, lacking}
use Rattle.rowfile.specs.Rows as rows
use Rattle.record.specs.declared.Record.{Record}
use Rattle.file.specs.File as records-file
use Rattle.grammar.specs.Reading.{Reading, records, refusal_of, reading}
use Rattle.verdict.specs.Verdict.{verdict, checked}
use Rattle.verdict.specs.Meaning.{Reads, Accepted}
use Rattle.verdict.proofs.Read.{refusal_low}
use Rattle.verdict.proofs.Cases.{verdict_one_of}
use Rattle.verdict.proofs.Judged.{by_verdict, one_reading}
use Rattle.entry.specs.Entries.{whole, held}
use Rattle.index.specs.Index.{index_of}
use Rattle.index.specs.Answers.{or_else, in_rows, room_for, built, compared, consulted}

-- what follows the two is behind both
pub behind : (a b c : Refusal) → or_else (or_else a b) c ≡ or_else a (or_else b c)
behind a b c = go (eqb a.number done) refl
  where
    go : (t : Bool) → eqb a.number done ≡ t → or_else (cond t b a) c ≡ cond t (or_else b c) a
    go true e = refl
    go false e = rw e

-- two answers of different numbers
pub unlike : {Q : Type 0} (n p m q : ℕ) → (n ≡ m → ⊥) → refused n p 0 ≡ refused m q 0 → Q
unlike n p m q h e = absurd (h (ap (λ (r : Refusal). r.number) e))

-- an answer of another number than 13, 14 and 15 is given behind the three
module _ (n p : ℕ) (x : Refusal) (other : (n ≡ not_whole → ⊥) × (n ≡ wrong_record → ⊥) × (n ≡ lacking → ⊥)) where
  pub behind_rows : (width : ℕ) (file : List ℕ) → or_else (in_rows width file) x ≡ refused n p 0 → (rows.whole width file ≡ true) × (x ≡ refused n p 0)
  behind_rows width file = go (rows.whole width file) refl
    where
      go : (b : Bool) → rows.whole width file ≡ b → or_else (cond b (refused done 0 0) (refused not_whole (length file) 0)) x ≡ refused n p 0
          → (rows.whole width file ≡ true) × (x ≡ refused n p 0)
      go true w e = (w, e)
      go false w e = unlike not_whole (length file) n p (λ m. other.0 (sym m)) e

  pub behind_verdict : (rs fs : List Record) → or_else (verdict rs fs) x ≡ refused n p 0 → (verdict rs fs ≡ refused done 0 0) × (x ≡ refused n p 0)
  behind_verdict rs fs h =
      ⊎_elim (λ (i, z). unlike wrong_record i n p (λ m. other.1 (sym m)) (rw z at h))
      (⊎_elim (λ (a, z). unlike lacking a n p (λ m. other.2 (sym m)) (rw z at h)) (λ z. (z, rw z at h))) (verdict_one_of rs fs)

module _ (s file : List ℕ) where
  -- a file is accepted where it is in whole records and the verdict is 0
  pub passes : (rs : List Record) → Reads s rs → Accepted s file
      → (records-file.whole file ≡ true) × (verdict rs (records-file.held file) ≡ refused done 0 0)
  passes rs e a =
      let (qs, h, w, v) = (by_verdict s file done 0 (λ h. omega arith) (λ h. omega arith)).0 a in
      let same : qs ≡ rs = one_reading s qs rs h e in
      (w, rw same at v)

  pub accepted : (rs : List Record) → Reads s rs → records-file.whole file ≡ true → verdict rs (records-file.held file) ≡ refused done 0 0 → Accepted s file
  accepted rs e w v = (by_verdict s file done 0 (λ h. omega arith) (λ h. omega arith)).1 (rs, e, w, v)

  -- a text's own refusal has a number from 1 to 10
  pub own : {Q : Type 0} (n p : ℕ) → (1 ≤ n → 10 < n) → (r : Refusal) → reading s ≡ refusal_of r → r ≡ refused n p 0 → Q
  own n p late r e h =
      absurd (let l = refusal_low s r e in let m : r.number ≡ n = ap (λ (q : Refusal). q.number) h in omega (arith, late (omega arith)))

  -- CHECKING AN INDEX: 0 and 16 are the answers of comparing

  module _ (index : List ℕ) (n p : ℕ) (late : 1 ≤ n → 15 < n) where
    abbrev Compared : Type 0
    Compared = (rs : List Record) × Reads s rs × Accepted s file × (whole index ≡ true) × (compared (held index) (index_of s rs) ≡ refused n p 0)

    other : (n ≡ not_whole → ⊥) × (n ≡ wrong_record → ⊥) × (n ≡ lacking → ⊥)
    other = (λ h. omega (arith, late (omega arith)), λ h. omega (arith, late (omega arith)), λ h. omega (arith, late (omega arith)))

    to_compared : (o : Reading) → reading s ≡ o → consulted s o file index ≡ refused n p 0 → Compared
    to_compared (refusal_of r) e h = own n p (λ k. omega (arith, late k)) r e h
    to_compared (records rs) e h =
        let (w, i) = behind_rows n p _ other 36 file h in
        let (v, j) = behind_rows n p _ other 16 index i in
        let (z, c) = behind_verdict n p _ other rs (records-file.held file) j in
        (rs, e, accepted rs e w z, v, c)

    of_compared : Compared → consulted s (reading s) file index ≡ refused n p 0
    of_compared (rs, e, a, v, h) = let (w, z) = passes rs e a in rw e (rw (w, v) (rw z h))

    pub by_compared : (consulted s (reading s) file index ≡ refused n p 0) ↔ Compared
    by_compared = (to_compared (reading s) refl, of_compared)

  -- BUILDING ONE: 0 and 11 are the answers of the room

  module _ (room n p : ℕ) (late : 1 ≤ n → 10 < n) (other : (n ≡ not_whole → ⊥) × (n ≡ wrong_record → ⊥) × (n ≡ lacking → ⊥)) where
    abbrev Roomed : Type 0
    Roomed = (rs : List Record) × Reads s rs × Accepted s file × (room_for (length (index_of s rs)) room ≡ refused n p 0)

    to_roomed : (o : Reading) → reading s ≡ o → built s o file room ≡ refused n p 0 → Roomed
    to_roomed (refusal_of r) e h = own n p late r e h
    to_roomed (records rs) e h =
        let (w, i) = behind_rows n p _ other 36 file h in
        let (z, c) = behind_verdict n p _ other rs (records-file.held file) i in
        (rs, e, accepted rs e w z, c)

    of_roomed : Roomed → built s (reading s) file room ≡ refused n p 0
    of_roomed (rs, e, a, h) = let (w, z) = passes rs e a in rw e (rw w (rw z h))

    pub by_room : (built s (reading s) file room ≡ refused n p 0) ↔ Roomed
    by_room = (to_roomed (reading s) refl, of_roomed)

-- 0 with the count, where there is room for it; else 11 with the count
pub room_done : (n room p : ℕ) → (room_for n room ≡ refused done p 0) ↔ ((n ≡ p) × (n ≤ room))
room_done n room p = (go (leb n room) refl, λ (e, h). rw (le-leb n room h, e))
  where
    go : (b : Bool) → leb n room ≡ b → cond b (refused done n 0) (refused record_room n 0) ≡ refused done p 0 → (n ≡ p) × (n ≤ room)
    go true t e = (ap (λ (r : Refusal). r.place) e, leb-true n room t)
    go false t e = unlike record_room n done p (λ m. omega arith) e

pub room_lacking : (n room p : ℕ) → (room_for n room ≡ refused record_room p 0) ↔ ((n ≡ p) × (room < n))
room_lacking n room p = (go (leb n room) refl, λ (e, h). rw (lt-leb n room h, e))
  where
    go : (b : Bool) → leb n room ≡ b → cond b (refused done n 0) (refused record_room n 0) ≡ refused record_room p 0 → (n ≡ p) × (room < n)
    go true t e = unlike done n record_room p (λ m. omega arith) e
    go false t e = (ap (λ (r : Refusal). r.place) e, leb-false n room t)

-- A FILE THAT IS NOT ACCEPTED gets the answer of checking it

module _ (s file : List ℕ) (not : Accepted s file → ⊥) where
  -- a wrong verdict stays, whatever follows
  pub verdict_stays : (rs : List Record) → Reads s rs → records-file.whole file ≡ true → (x : Refusal)
      → or_else (verdict rs (records-file.held file)) x ≡ verdict rs (records-file.held file)
  verdict_stays rs e w x =
      ⊎_elim (λ (i, z). rw z) (⊎_elim (λ (a, z). rw z) (λ z. absurd (not (accepted s file rs e w z)))) (verdict_one_of rs (records-file.held file))

  pub built_refused : (room : ℕ) → built s (reading s) file room ≡ checked (reading s) file
  built_refused room = of (reading s) refl
    where
      of : (o : Reading) → reading s ≡ o → built s o file room ≡ checked o file
      of (refusal_of r) e = refl
      of (records rs) e = go (records-file.whole file) refl
        where
          go : (b : Bool) → records-file.whole file ≡ b
              → or_else (cond b (refused done 0 0) (refused not_whole (length file) 0)) (or_else (verdict rs (records-file.held file)) (room_for (length (index_of s rs)) room))
              ≡ cond b (verdict rs (records-file.held file)) (refused not_whole (length file) 0)
          go true w = verdict_stays rs e w (room_for (length (index_of s rs)) room)
          go false w = refl

  pub consulted_refused : (index : List ℕ) → whole index ≡ true → consulted s (reading s) file index ≡ checked (reading s) file
  consulted_refused index v = of (reading s) refl
    where
      of : (o : Reading) → reading s ≡ o → consulted s o file index ≡ checked o file
      of (refusal_of r) e = refl
      of (records rs) e = rw v (go (records-file.whole file) refl)
        where
          go : (b : Bool) → records-file.whole file ≡ b
              → or_else (cond b (refused done 0 0) (refused not_whole (length file) 0)) (or_else (verdict rs (records-file.held file)) (compared (held index) (index_of s rs)))
              ≡ cond b (verdict rs (records-file.held file)) (refused not_whole (length file) 0)
          go true w = verdict_stays rs e w (compared (held index) (index_of s rs))
          go false w = refl
