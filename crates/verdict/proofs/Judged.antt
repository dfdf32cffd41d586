-- From the verdict to the answer of checking: a text's own refusal is one of 1 to 10, 13 is that of the length alone, and all else is the verdict's.
use Prim.Native.Nat.{ℕ, ◌≤◌, ◌<◌}
use native.Mathlib.Omega.{arith}
use mathlib.Core.Path.{◌≡◌, refl, sym, ap, ◌∙◌}
use mathlib.Core.Logic.{◌↔◌, ◌⊎◌, inl, inr}
use mathlib.Core.Bool.{Bool, true, false, cond}
use mathlib.Core.List.{List}
use lib.ListN.{length}
use Rattle.refusal.specs.declared.Refusal.{Refusal}
use Rattle.refusal.specs.Table.{refused, done, not_whole}
use Rattle.record.specs.declared.Record.{Record}
use Rattle.record.specs.Bytes.{encoded}
use Rattle.file.specs.File.{whole, held, bytes_at}
use Rattle.file.proofs.Held.{held_all, all_at}
use Rattle.grammar.specs.Reading.{Reading, records, refusal_of, reading}
use Rattle.verdict.specs.Verdict.{blank, verdict, checked}
use Rattle.verdict.specs.Meaning.{nth, Permutation, InSomeOrder, Reads, Accepted, OfFile}
use Rattle.verdict.proofs.Read.{reading_rises, reading_fits, refusal_low}
use Rattle.verdict.proofs.Cases.{verdict_number, verdict_one_of}
use Rattle.verdict.proofs.Orders.{order_iff}

module _ (s file : List ℕ) (n p : ℕ) (late : 1 ≤ n → 10 < n) (other : n ≡ not_whole → ⊥) where
  abbrev Judged : Type 0
  Judged = (rs : List Record) × Reads s rs × (whole file ≡ true) × (verdict rs (held file) ≡ refused n p 0)

  to_verdict : (o : Reading) → reading s ≡ o → checked o file ≡ refused n p 0 → Judged
  to_verdict (refusal_of r) e h = absurd (let l = refusal_low s r e in let m : r.number ≡ n = ap (λ q. q.number) h in omega (arith, late (omega arith)))
  to_verdict (records rs) e h = go (whole file) refl h
    where
      go : (b : Bool) → whole file ≡ b → cond b (verdict rs (held file)) (refused not_whole (length file) 0) ≡ refused n p 0 → Judged
      go true w q = (rs, e, w, q)
      go false w q = absurd (other (sym (ap (λ r. r.number) q)))

  of_verdict : Judged → checked (reading s) file ≡ refused n p 0
  of_verdict (rs, e, w, h) = rw (e) (rw (w) h)

  pub by_verdict : (checked (reading s) file ≡ refused n p 0) ↔ Judged
  by_verdict = (to_verdict (reading s) refl, of_verdict)

module _ (s file : List ℕ) (p : ℕ) where
  abbrev Long : Type 0
  Long = (rs : List Record) × Reads s rs × (whole file ≡ false) × (length file ≡ p)

  pub to_length : (o : Reading) → reading s ≡ o → checked o file ≡ refused not_whole p 0 → Long
  to_length (refusal_of r) e h = absurd (let l = refusal_low s r e in let m : r.number ≡ not_whole = ap (λ q. q.number) h in omega arith)
  to_length (records rs) e h = go (whole file) refl h
    where
      go : (b : Bool) → whole file ≡ b → cond b (verdict rs (held file)) (refused not_whole (length file) 0) ≡ refused not_whole p 0 → Long
      go true w q = absurd (verdict_number rs (held file) not_whole (λ z. omega arith) (λ z. omega arith) (λ z. omega arith) (ap (λ r. r.number) q))
      go false w q = (rs, e, w, ap (λ r. r.place) q)

-- a text that reads gets one of the four
pub of_reading : (o : Reading) (file : List ℕ) → ((r : Refusal) × (o ≡ refusal_of r)) ⊎ OfFile file (checked o file)
of_reading (refusal_of r) file = inl (r, refl)
of_reading (records rs) file = inr (go (whole file))
  where
    go : (b : Bool) → OfFile file (cond b (verdict rs (held file)) (refused not_whole (length file) 0))
    go true = inr (verdict_one_of rs (held file))
    go false = inl refl

-- ACCEPTED FILES

pub one_reading : (s : List ℕ) (rs qs : List Record) → Reads s rs → Reads s qs → rs ≡ qs
one_reading s rs qs e h = let z : records rs ≡ records qs = sym e ∙ h in cc

pub accepted_order : (s file : List ℕ) → Accepted s file → (rs : List Record) × Reads s rs × (whole file ≡ true) × Permutation (held file) rs
accepted_order s file e =
    let (rs, q, w, v) = (by_verdict s file done 0 (λ h. omega arith) (λ h. omega arith)).0 e in
    (rs, q, w, (order_iff rs (held file) (reading_rises s rs q)).0 v)

-- a file that is the reading's records in some order holds them, and has the bytes of each at its index
pub ordered_held : (s : List ℕ) (rs : List Record) (file : List ℕ) → Reads s rs → InSomeOrder rs file
    → Permutation (held file) rs × ((i : ℕ) → i < length (held file) → bytes_at file i ≡ encoded (nth (held file) i))
ordered_held s rs file e (fs, p, f) =
    let h : held file ≡ fs = ap held f ∙ held_all fs (reading_fits s rs fs e p) in (
      rw h p,
      λ i l.
          let k : i < length fs = rw h at l in
          ap (λ l. bytes_at l i) f ∙ all_at fs blank i k ∙ ap (λ l. encoded (nth l i)) (sym h),
    )
