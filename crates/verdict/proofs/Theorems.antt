-- WHAT CHECKING PROMISES, over the reading of the text alone: each answer is given exactly where this says, by the cases of the definition.
use Prim.Native.Nat.{ℕ, ◌≤◌, ◌<◌}
use native.Mathlib.Omega.{arith}
use mathlib.Core.Path.{◌≡◌, refl, sym, ap, ◌∙◌}
use mathlib.Core.Logic.{◌↔◌, ◌⊎◌, inr, ⊎_elim}
use mathlib.Core.Bool.{true, false}
use mathlib.Core.List.Permᴰ
use mathlib.Core.List.{List}
use lib.ListN.{length}
use Rattle.refusal.specs.declared.Refusal.{Refusal}
use Rattle.refusal.specs.Table.{refused, done, not_whole, wrong_record, lacking}
use Rattle.little.specs.Little.{Bytes}
use Rattle.record.specs.declared.Record.{Record}
use Rattle.record.specs.Bytes.{encoded}
use Rattle.file.specs.File.{whole, held, encoded_all, bytes_at}
use Rattle.file.proofs.Held.{all_whole, held_all, all_held}
use Rattle.grammar.specs.Reading.{refusal_of, reading}
use Rattle.verdict.specs.Verdict.{verdict, checked}
use Rattle.verdict.specs.Meaning.{nth, In, Repeated, Faulty, Lacking, First, None, AsOften, Permutation, InSomeOrder, Reads, Accepted, OfFile}
use Rattle.verdict.proofs.Counts.{as_often, reordered}
use Rattle.verdict.proofs.Read.{reading_rises, reading_fits}
use Rattle.verdict.proofs.Cases.{wrong_iff, lacking_iff, first_fault}
use Rattle.verdict.proofs.Orders.{shared, order_iff, one_at}
use Rattle.verdict.proofs.Judged.{of_reading, to_length, by_verdict, one_reading, accepted_order, ordered_held}

-- THE TEXT'S OWN REFUSAL comes first
pub refused_first : (s file : List ℕ) (r : Refusal) → reading s ≡ refusal_of r → checked (reading s) file ≡ r
refused_first s file r e = rw e

-- the answer is the text's own refusal, 13, 14, 15 or 0, whatever the text and the file
pub one_of_five : (s file : List ℕ) → ((r : Refusal) × (reading s ≡ refusal_of r)) ⊎ OfFile file (checked (reading s) file)
one_of_five s file = of_reading (reading s) file

-- 13: the text reads, and the file is no multiple of 36 bytes; place: its length
pub not_whole_says : (s file : List ℕ) (p : ℕ)
    → (checked (reading s) file ≡ refused not_whole p 0) ↔ ((rs : List Record) × Reads s rs × (whole file ≡ false) × (length file ≡ p))
not_whole_says s file p = (to_length s file p (reading s) refl, λ (rs, e, w, h). rw (e, w, h))

-- 14: record i is foreign or equal to an earlier one, and no record before it is
pub wrong_says : (s file : List ℕ) (i : ℕ)
    → (checked (reading s) file ≡ refused wrong_record i 0)
    ↔ ((rs : List Record) × Reads s rs × (whole file ≡ true) × First (length (held file)) (Faulty rs (held file)) i)
wrong_says s file i =
    let j = by_verdict s file wrong_record i (λ h. omega arith) (λ h. omega arith) in (
      λ e. let (rs, q, w, v) = j.0 e in (rs, q, w, (wrong_iff rs (held file) i).0 v),
      λ (rs, q, w, f). j.1 (rs, q, w, (wrong_iff rs (held file) i).1 f),
    )

-- 15: no record is wrong, and a is the `at` of the first record of the reading that the file lacks
pub lacking_says : (s file : List ℕ) (a : ℕ)
    → (checked (reading s) file ≡ refused lacking a 0)
    ↔ ((rs : List Record) × Reads s rs × (whole file ≡ true) × None (length (held file)) (Faulty rs (held file))
    × ((k : ℕ) × First (length rs) (Lacking rs (held file)) k × ((nth rs k).at ≡ a)))
lacking_says s file a =
    let j = by_verdict s file lacking a (λ h. omega arith) (λ h. omega arith) in (
      λ e. let (rs, q, w, v) = j.0 e in let z = (lacking_iff rs (held file) a).0 v in (rs, q, w, z.0, z.1),
      λ (rs, q, w, f, g). j.1 (rs, q, w, (lacking_iff rs (held file) a).1 (f, g)),
    )

-- 0: the file is the reading's records in some order, each once, and nothing else
pub accepted_iff : (s file : List ℕ) → Bytes file → Accepted s file ↔ ((rs : List Record) × Reads s rs × InSomeOrder rs file)
accepted_iff s file b =
    let j = by_verdict s file done 0 (λ h. omega arith) (λ h. omega arith) in (
      λ e. let (rs, q, w, v) = j.0 e in
          (rs, q, (held file, (order_iff rs (held file) (reading_rises s rs q)).0 v, sym (all_held file b w))),
      λ (rs, q, (fs, p, f)).
          let h : held file ≡ fs = ap held f ∙ held_all fs (reading_fits s rs fs q p) in
          j.1 (rs, q, ap whole f ∙ all_whole fs, ap (verdict rs) h ∙ (order_iff rs fs (reading_rises s rs q)).1 p),
    )

-- what reading gives is accepted
pub reading_accepted : (s : List ℕ) (rs : List Record) → Reads s rs → Accepted s (encoded_all rs)
reading_accepted s rs q =
    let f : held (encoded_all rs) ≡ rs = held_all rs (reading_fits s rs rs q (Permᴰ.refl rs)) in
    (by_verdict s (encoded_all rs) done 0 (λ h. omega arith) (λ h. omega arith)
    ).1 (rs, q, all_whole rs, ap (verdict rs) f ∙ (order_iff rs rs (reading_rises s rs q)).1 (Permᴰ.refl rs))

-- being the same in some order is having each record equally often
pub permutation_iff : (k l : List Record) → Permutation k l ↔ AsOften k l
permutation_iff k l = (as_often, reordered k l)

-- AGREEMENT of two files that are the reading's records in some order, as accepted files are

-- each holds each record as often as the other: the one's records are the other's in some order
pub accepted_alike : (s f g : List ℕ) → Accepted s f → Accepted s g → Permutation (held f) (held g) × AsOften (held f) (held g)
accepted_alike s f g a b =
    let (rs, p, v, o) = accepted_order s f a in
    let (qs, q, w, t) = accepted_order s g b in
    let h : Permutation (held g) rs = rw (one_reading s rs qs p q) t in
    let z = Permᴰ.trans o (Permᴰ.symm h) in
    (z, as_often z)

-- records with one `at` are equal in every field, and in each of their 36 bytes
pub agree : (s f g : List ℕ) (rs : List Record) → Reads s rs → InSomeOrder rs f → InSomeOrder rs g
    → (i j : ℕ) → i < length (held f) → j < length (held g) → (nth (held f) i).at ≡ (nth (held g) j).at
    → (nth (held f) i ≡ nth (held g) j) × (bytes_at f i ≡ bytes_at g j)
agree s f g rs e x y i j h k t =
    let (p, u) = ordered_held s rs f e x in
    let (q, v) = ordered_held s rs g e y in
    let z : nth (held f) i ≡ nth (held g) j =
    one_at rs (reading_rises s rs e) (nth (held f) i) (nth (held g) j) (shared (held f) rs (as_often p) i h) (shared (held g) rs (as_often q) j k) t in
    (z, u i h ∙ ap encoded z ∙ sym (v j k))

pub accepted_agree : (s f g : List ℕ) → Bytes f → Bytes g → Accepted s f → Accepted s g
    → (i j : ℕ) → i < length (held f) → j < length (held g) → (nth (held f) i).at ≡ (nth (held g) j).at
    → (nth (held f) i ≡ nth (held g) j) × (bytes_at f i ≡ bytes_at g j)
accepted_agree s f g x y a b =
    let (rs, p, o) = (accepted_iff s f x).0 a in
    let (qs, q, t) = (accepted_iff s g y).0 b in
    agree s f g rs p o (rw (one_reading s rs qs p q) t)

-- and each record of the one is, byte for byte, one of the other
pub found_again : (s f g : List ℕ) (rs : List Record) → Reads s rs → InSomeOrder rs f → InSomeOrder rs g
    → (i : ℕ) → i < length (held f) → (j : ℕ) × (j < length (held g)) × (bytes_at f i ≡ bytes_at g j)
found_again s f g rs e x y i h =
    let (p, u) = ordered_held s rs f e x in
    let (q, v) = ordered_held s rs g e y in
    let (j, k, z) = shared (held f) (held g) (as_often (Permᴰ.trans p (Permᴰ.symm q))) i h in
    (j, k, u i h ∙ ap encoded z ∙ sym (v j k))

-- A REPEAT HIDES NOTHING: where each record is one of the reading's and some record stands twice, however many there are, the answer is 14
-- with the first index whose record is equal to an earlier one
pub repeat_hides_nothing : (s file : List ℕ) (rs : List Record) → Reads s rs → whole file ≡ true
    → ((i : ℕ) → i < length (held file) → In (nth (held file) i) rs)
    → (j : ℕ) → j < length (held file) → Repeated (held file) j
    → (k : ℕ) × (k ≤ j) × First (length (held file)) (Repeated (held file)) k × (checked (reading s) file ≡ refused wrong_record k 0)
repeat_hides_nothing s file rs e w known j h r =
    let (k, l, (a, b, c)) = first_fault rs (held file) j h (inr r) in (
      k,
      l,
      (a, ⊎_elim (λ f. absurd (f (known k a))) (λ m. m) b, λ i q m. c i q (inr m)),
      (wrong_says s file k).1 (rs, e, w, (a, b, c)),
    )
