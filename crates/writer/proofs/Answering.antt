-- What writing answers: the checker's refusal, or the count of the text's bytes, which a first writing without room has counted.
use Prim.Native.Nat.{ℕ, ◌-◌, ◌^◌, ◌≤◌, ◌<◌}
use native.Mathlib.Omega.{arith}
use mathlib.Core.Path.{◌≡◌, refl, sym, ap, ◌∙◌}
use mathlib.Core.Bool.{Bool, true, false, cond}
use mathlib.Core.List.{List, [], map, append-nil}
use lib.Dec.{eqb}
use lib.ListN.{length}
use borrow.Author.Tests.{eqb-true, ne_eqb, le-leb, lt-leb}
use Rattle.std.specs.Prelude.{Result, Ok, Err, ⊤}
use Rattle.refusal.specs.declared.Refusal.{Refusal}
use Rattle.refusal.specs.Table.{refused, done, text_room, outcome, judgement}
use Rattle.record.specs.declared.Record.{Record}
use Rattle.grammar.specs.Reading.{Reading, start, records, refusal_of, reading}
use Rattle.reader.specs.declared.open.State.{State}
use Rattle.reader.specs.Open.{state_of}
use Rattle.reader.specs.Passed.{read_from, Begins}
use Rattle.verdict.specs.Verdict.{checked}
use Rattle.verdict.proofs.Read.{refusal_low}
use Rattle.checker.specs.Passing.{accepted as passes}
use Rattle.checker.proofs.Judging.{reads_of}
use Rattle.render.specs.Pieces.{text}
use Rattle.render.specs.Plain.{bare}
use Rattle.render.specs.Lines.{lines}
use Rattle.render.specs.Fit.{fit_from}
use Rattle.render.specs.Written.{canonical, accepted, written, filled}
use Rattle.writer.specs.Told.{Answers, Tells, Reads}
use Rattle.render.proofs.Short.{reading_short}
use Rattle.render.proofs.Theorems.{render_bare}
use Rattle.lines.specs.Put.{greatest, Put}
use Rattle.lines.proofs.Laws.{put_as, put_whole}
use Rattle.writer.specs.Penned.{admits_all, May, Ready}
use Rattle.writer.proofs.Writing.{fits_first}

-- a judgement that is a refusal, and one that is none
told : (x r : Refusal) → Err r ≡ judgement x → (r ≡ x) × (eqb x.number done ≡ false)
told x r h = go (eqb x.number done) refl h
  where
    go : (b : Bool) → eqb x.number done ≡ b → ◌≡◌ {A = Result ⊤ Refusal} (Err r) (cond b (Ok tt) (Err x)) → (r ≡ x) × (eqb x.number done ≡ false)
    go true e q = absurd (let z : ◌≡◌ {A = ℕ} 0 1 = cc in let y : ⊥ = omega arith in y)
    go false e q = (cc, e)

passed : (x : Refusal) → Ok tt ≡ judgement x → eqb x.number done ≡ true
passed x h = go (eqb x.number done) refl h
  where
    go : (b : Bool) → eqb x.number done ≡ b → ◌≡◌ {A = Result ⊤ Refusal} (Ok tt) (cond b (Ok tt) (Err x)) → eqb x.number done ≡ true
    go true e q = e
    go false e q = absurd (let z : ◌≡◌ {A = ℕ} 0 1 = cc in let y : ⊥ = omega arith in y)

module _ (s file : List ℕ) where
  -- what is refused keeps the buffer
  pub refused_first : (r : Refusal) → Err r ≡ judgement (checked (reading s) file) → (out : List ℕ) → Answers s file out (Err r) out
  unfolding written filled
  refused_first r h out =
      let (z, n) = told (checked (reading s) file) r h in
      (rw (n, n) (ap Err z), rw (n, n))

  -- a text that is refused at its beginning
  pub begun_refused : (r : Refusal) → reading s ≡ refusal_of r → (out : List ℕ) → Answers s file out (Err r) out
  begun_refused r q = refused_first r (rw q (rw (ne_eqb r.number done (omega (arith, (refusal_low s r q).0)))))

  module _ (same : Bool) (h : passes (Ok same) ≡ judgement (checked (reading s) file)) where
    yes : accepted (checked (reading s) file) ≡ true
    yes = passed (checked (reading s) file) h

    -- a text that is refused has another number
    never_refused : (r : Refusal) → reading s ≡ refusal_of r → ⊥
    never_refused r q =
        let m : r.number ≡ done = eqb-true r.number done (rw q at yes) in
        omega (arith, (refusal_low s r q).0)

    reads : (o : Reading) → reading s ≡ o → Reads s
    reads (records rs) q = (rs, q)
    reads (refusal_of r) q = absurd (never_refused r q)

    -- an accepted file is that of a text that is read to its end
    pub reads_on : Reads s
    reads_on = reads (reading s) refl

    pub accepted_then : (out : List ℕ) (r : Refusal) (exit : List ℕ) → Tells s out r exit → Answers s file out (outcome r) exit
    unfolding written filled
    accepted_then out r exit t = (rw yes (ap outcome t.0), rw yes t.1)

-- THE TEXT

module _ (s : List ℕ) (rs : List Record) (all : reading s ≡ records rs) where
  said : canonical s ≡ text (lines start (map (bare s) rs))
  said = rw all (render_bare s rs all).0

  short : length (canonical s) ≤ 2 ^ 64 - 1
  short = rw said (reading_short s rs all)

  -- the first writing, without room
  module _ (n : ℕ) (o o' : List ℕ) (p : Put o 0 (canonical s) n o') where
    counted : n ≡ length (canonical s)
    counted = omega (arith, p.reached, short)

    pub no_room : (out : List ℕ) → length out < n → Tells s out (refused text_room n 0) out
    no_room out l =
        let k = lt-leb (length (canonical s)) (length out) (omega (arith, counted)) in
        (rw (k, counted), rw k)

    pub written_whole : (out exit : List ℕ) → n ≤ length out → length out ≤ greatest → (m : ℕ) → Put out 0 (canonical s) m exit → Tells s out (refused done n 0) exit
    written_whole out exit l g m q =
        let k = le-leb (length (canonical s)) (length out) (omega (arith, counted)) in
        (rw (k, counted), rw k (put_whole q (omega (arith, counted)) g).1)

  module _ (st : State) (begun : Begins s (Ok st)) where
    gives : read_from s st ≡ records rs
    gives = sym begun.0 ∙ all

    pub ready : Ready s st rs
    ready = record {
      sound = begun.3;
      gives = gives;
      fit = (reads_of s st begun.0 begun.3 rs gives).fit;
      fits = ap (λ t. fit_from t (map (bare s) rs)) begun.2 ∙ (render_bare s rs all).1;
    }

    admitted : admits_all (state_of s st) (map (bare s) rs) ≡ true
    admitted = (fits_first (state_of s st) (map (bare s) rs) [] (rw (append-nil (map (bare s) rs)) ready.fits)).0

    -- the records may come from the state on, and their lines are the text
    pub may : May s st.«open» st.outer (map (bare s) rs)
    may = (begun.3, admitted)

    pub as_text : {o o' : List ℕ} {n : ℕ} → Put o 0 (text (lines (state_of s st) (map (bare s) rs))) n o' → Put o 0 (canonical s) n o'
    as_text p = put_as (ap (λ t. text (lines t (map (bare s) rs))) begun.2 ∙ sym said) p

    pub as_text_read : {o o' : List ℕ} {n : ℕ} → ((qs : List Record) → read_from s st ≡ records qs → Put o 0 (text (lines (state_of s st) (map (bare s) qs))) n o')
        → Put o 0 (canonical s) n o'
    as_text_read p = as_text (p rs gives)
