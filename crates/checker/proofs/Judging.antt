-- The answer for a text that is read to its end: what reading ensures of its records is what the passes ask for.
use Prim.Native.Nat.{ℕ, zero, suc, ◌*◌, ◌/◌, ◌%◌, ◌≤◌}
use native.Mathlib.Nat.{le_of_suc-le-suc, not-suc-le-zero}
use native.Mathlib.Omega.{arith}
use mathlib.Core.Path.{◌≡◌, sym, ap, ◌∙◌}
use mathlib.Core.Bool.{Bool, true, false}
use mathlib.Core.List.{List, [], ◌∷◌}
use lib.ListN.{length, length-replicate, replicate}
use lib.Seq.{ext_get_or}
use borrow.Author.Tests.{eq-eqb, ne_eqb}
use Rattle.std.specs.Prelude.{Result, Ok, Err, ⊤}
use Rattle.refusal.specs.declared.Refusal.{Refusal}
use Rattle.refusal.specs.Table.{refused, done, not_whole, judgement}
use Rattle.record.specs.declared.Record.{Record}
use Rattle.record.specs.Range.{InRange}
use Rattle.file.specs.File.{held}
use Rattle.file.proofs.Held.{held_length, front_at}
use Rattle.grammar.specs.Standing.{Every}
use Rattle.grammar.specs.Reading.{records, refusal_of, reading}
use Rattle.grammar.proofs.Ranges.{in_range}
use Rattle.reader.specs.declared.open.State.{State}
use Rattle.reader.specs.Passed.{Sound, read_from}
use Rattle.verdict.specs.Verdict.{blank, verdict, checked}
use Rattle.verdict.proofs.Bridge.{verdict_in_order}
use Rattle.verdict.proofs.Read.{reading_rises, refusal_low}
use Rattle.checker.specs.Passing.{Fit, Reads, InOrder, Orders}
use Rattle.checker.proofs.Following.{same_records}

-- an array of n bytes has room for so many records, and bytes
pub room36 : (n c v : ℕ) → 36 * c ≤ n → c ≤ length (replicate n v) / 36
room36 n c v h = rw length-replicate (omega arith)

pub room : (n c v : ℕ) → c ≤ n → c ≤ length (replicate n v)
room n c v h = rw length-replicate h

every_nth : (rs : List Record) → Every InRange rs → Fit rs
every_nth [] h k l = absurd (not-suc-le-zero l)
every_nth (r ∷ rs) h zero l = h.0
every_nth (r ∷ rs) h (suc k) l = every_nth rs h.1 k (le_of_suc-le-suc l)

-- 13, or the verdict
pub not_whole_says : (rs : List Record) (file : List ℕ) → (length file % 36 ≡ 0 → ⊥) → checked (records rs) file ≡ refused not_whole (length file) 0
not_whole_says rs file h = rw (ne_eqb (length file % 36) 0 h)

pub whole_says : (rs : List Record) (file : List ℕ) → length file % 36 ≡ 0 → checked (records rs) file ≡ verdict rs (held file)
whole_says rs file h = rw (eq-eqb (length file % 36) 0 h)

-- the refusal of the text has a number
pub text_refused : (s file : List ℕ) (r : Refusal) → reading s ≡ refusal_of r → Err r ≡ judgement (checked (reading s) file)
text_refused s file r e = rw e (rw (ne_eqb r.number done (omega (arith, refusal_low s r e))))

module _ (s : List ℕ) (st : State) (from : reading s ≡ read_from s st) (sound : Sound s st) where
  pub reads_of : (rs : List Record) → read_from s st ≡ records rs → Reads s st rs
  reads_of rs e = record { sound = sound; gives = e; rises = reading_rises s rs (from ∙ e); fit = every_nth rs (in_range s rs (from ∙ e)) }

  -- what the first pass shows
  pub some_order : (file : List ℕ) (same : Bool) → Orders s st file (Ok same) → (rs : List Record) × (read_from s st ≡ records rs)
  some_order file true h = (h.0, h.1)
  some_order file false h = h

  module _ (file : List ℕ) (rs : List Record) (e : read_from s st ≡ records rs) where
    -- the answer for the records is the answer for the reading
    judged : {A : Type 0} (f : Refusal → A) → f (checked (records rs) file) ≡ f (checked (reading s) file)
    judged f = sym (ap (λ o. f (checked o file)) (from ∙ e))

    pub by_length : (length file % 36 ≡ 0 → ⊥) → Err (refused not_whole (length file) 0) ≡ judgement (checked (reading s) file)
    by_length h = ap judgement (sym (not_whole_says rs file h)) ∙ judged judgement

    pub by_verdict : length file % 36 ≡ 0 → (v : Result ⊤ Refusal) → v ≡ judgement (verdict rs (held file)) → v ≡ judgement (checked (reading s) file)
    by_verdict h v q = q ∙ ap judgement (sym (whole_says rs file h)) ∙ judged judgement

-- a file in the reading's own order
module _ (s : List ℕ) (st : State) (file : List ℕ) (ps : List Record) (q : Reads s st ps) (io : InOrder ps file) (rs : List Record) (e : read_from s st ≡ records rs) where
  pub same_held : rs ≡ held file
  same_held =
      let z = io q.fit in
      let n = length file / 36 in
      let equal : held file ≡ ps
      = ext_get_or blank (held file) ps (held_length file ∙ z.0) (λ i h. front_at n file blank i (rw (held_length file) at h) ∙ z.1 i (omega (arith, held_length file, z.0))) in
      sym (equal ∙ same_records ps rs (sym q.gives ∙ e))

  pub same_done : verdict rs (held file) ≡ refused done 0 0
  same_done =
      let one : ps ≡ rs = same_records ps rs (sym q.gives ∙ e) in
      rw one at (verdict_in_order ps (held file) q.rises (sym same_held ∙ sym one))
