-- What checking needs of a reading: its records rise, by index; each fits its bytes; and its refusals are 1 to 10.
use Prim.Native.Nat.{ℕ, zero, suc, ◌≤◌, ◌<◌}
use native.Mathlib.Nat.{le_of_suc-le-suc, not-suc-le-zero}
use native.Mathlib.Omega.{arith}
use mathlib.Core.Path.{◌≡◌, refl}
use mathlib.Core.Logic.{⊎_elim}
use mathlib.Core.List.Memᴰ
use mathlib.Core.List.Permᴰ
use mathlib.Core.List.{List, [], ◌∷◌, Memᴰ}
use lib.ListN.{length}
use Rattle.refusal.specs.declared.Refusal.{Refusal}
use Rattle.record.specs.declared.Record.{Record}
use Rattle.record.specs.Range.{InRange}
use Rattle.grammar.specs.Standing.{Every, Rising, places_of}
use Rattle.grammar.specs.Reading.{records, refusal_of, reading}
use Rattle.grammar.proofs.Refusals.{refusal_number}
use Rattle.grammar.proofs.Places.{places_rise}
use Rattle.grammar.proofs.Ranges.{in_range}
use Rattle.verdict.specs.Meaning.{nth, Rises, Permutation}

-- RISING BY INDEX

above : (p : ℕ) (rs : List Record) → Rising (p ∷ places_of rs) → (j : ℕ) → j < length rs → p < (nth rs j).at
above p [] h j l = absurd (not-suc-le-zero l)
above p (r ∷ rs) h zero l = h.0
above p (r ∷ rs) h (suc j) l = omega (arith, h.0, above r.at rs h.1 j (le_of_suc-le-suc l))

later : (p : ℕ) (rs : List Record) → Rising (p ∷ places_of rs) → Rising (places_of rs)
later p [] h = tt
later p (r ∷ rs) h = h.1

rises : (rs : List Record) → Rising (places_of rs) → Rises rs
rises [] h i j k l = absurd (not-suc-le-zero l)
rises (r ∷ rs) h i zero k l = absurd (not-suc-le-zero k)
rises (r ∷ rs) h zero (suc j) k l = above r.at rs h j (le_of_suc-le-suc l)
rises (r ∷ rs) h (suc i) (suc j) k l = rises rs (later r.at rs h) i j (le_of_suc-le-suc k) (le_of_suc-le-suc l)

pub reading_rises : (s : List ℕ) (rs : List Record) → reading s ≡ records rs → Rises rs
reading_rises s rs e = rises rs (places_rise s rs e)

-- IN RANGE, in any order

every_order : (P : Record → Type 0) {k l : List Record} → Permutation k l → Every P l → Every P k
every_order P Permᴰ.nil h = tt
every_order P (Permᴰ.cons e d) h = (rw e h.0, every_order P d h.1)
every_order P (Permᴰ.swap p q) h = (rw p h.1.0, (rw q h.0, h.1.1))
every_order P (Permᴰ.trans d e) h = every_order P d (every_order P e h)

pub every_member : (P : Record → Type 0) (l : List Record) → Every P l → (r : Record) → Memᴰ r l → P r
every_member P [] h r m = absurd (Memᴰ.not-nil m)
every_member P (x ∷ l) h r m = ⊎_elim (λ e. rw e h.0) (every_member P l h.1 r) (Memᴰ.cases_cons m)

pub reading_fits : (s : List ℕ) (rs fs : List Record) → reading s ≡ records rs → Permutation fs rs → (r : Record) → Memᴰ r fs → InRange r
reading_fits s rs fs e p = every_member InRange fs (every_order InRange p (in_range s rs e))

-- THE NUMBERS OF REFUSALS

pub refusal_low : (s : List ℕ) (r : Refusal) → reading s ≡ refusal_of r → (1 ≤ r.number) × (r.number ≤ 10)
refusal_low s r e = refusal_number s r.number r.place r.line e
