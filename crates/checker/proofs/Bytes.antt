-- Two records are equal where the five numbers of their 36 bytes are: each part of a record's bytes is the bytes of its number. And equal parts of
-- two files hold equal records.
use Prim.Native.Nat.{ℕ, ◌+◌, ◌*◌, ◌≤◌, ◌<◌}
use native.Mathlib.Omega.{arith}
use mathlib.Core.Path.{◌≡◌, refl, sym, ap, ◌∙◌}
use mathlib.Core.Bool.{Bool, true, false, ◌&&◌, false≢true}
use mathlib.Core.List.{List, ◌++◌}
use lib.Dec.{eqb}
use lib.ListN.{length, take, drop, length-take, length-drop, take-append-drop, drop_of_length-le}
use lib.Seq.{drop-drop}
use borrow.Author.Tests.{eq-eqb, eqb-true}
use Rattle.little.specs.Little.{little, number, Bytes}
use Rattle.little.proofs.Laws.{little_number, take_bytes, drop_bytes}
use Rattle.rowfile.proofs.Parts.{part}
use Rattle.record.specs.declared.Record.{Record}
use Rattle.record.specs.Bytes.{encoded, decoded}
use Rattle.record.proofs.Laws.{whole}
use Rattle.file.specs.File.{record_in}
use Rattle.verdict.specs.Verdict.{same}
use Rattle.verdict.proofs.Laws.{same_true, same_false}

and_true : (a b : Bool) → (a && b) ≡ true → (a ≡ true) × (b ≡ true)
and_true true b h = (refl, h)
and_true false b h = absurd (false≢true h)

decide : (b : Bool) (x y : Record) → (b ≡ true → x ≡ y) → (x ≡ y → b ≡ true) → b ≡ same x y
decide true x y f g = sym (same_true x y (f refl))
decide false x y f g = sym (same_false x y (λ e. false≢true (g e)))

module _ (u v : List ℕ) (bu : Bytes u) (bv : Bytes v) (lu : length u ≡ 36) (lv : length v ≡ 36) where
  back : (t : List ℕ) → Bytes t → length t ≡ 36 → (o n : ℕ) → o + n ≤ 36 → little n (number (take n (drop o t))) ≡ take n (drop o t)
  back t b e o n h =
      let z : length (take n (drop o t)) ≡ n = simp (length-take, length-drop) (omega arith) in
      rw z at (little_number (take n (drop o t)) (take_bytes n (drop o t) (drop_bytes o t b)))

  -- bytes of equal numbers are equal, and then what they start is, if what follows them is
  cut : (o n k : ℕ) → k ≡ o + n → k ≤ 36 → number (take n (drop o u)) ≡ number (take n (drop o v)) → drop k u ≡ drop k v → drop o u ≡ drop o v
  cut o n k z h e d =
      let same-part : take n (drop o u) ≡ take n (drop o v) = sym (back u bu lu o n (omega arith)) ∙ ap (little n) e ∙ back v bv lv o n (omega arith) in
      let same_rest : drop n (drop o u) ≡ drop n (drop o v) = drop-drop n o u ∙ rw z at d ∙ sym (drop-drop n o v) in
      sym (take-append-drop n (drop o u)) ∙ (λ i. same-part i ++ same_rest i) ∙ take-append-drop n (drop o v)

  five_equal :
      number (take 8 (drop 0 u)) ≡ number (take 8 (drop 0 v))
      → number (take 8 (drop 8 u)) ≡ number (take 8 (drop 8 v))
      → number (take 8 (drop 16 u)) ≡ number (take 8 (drop 16 v))
      → number (take 8 (drop 24 u)) ≡ number (take 8 (drop 24 v))
      → number (take 4 (drop 32 u)) ≡ number (take 4 (drop 32 v))
      → u ≡ v
  five_equal a b c d e =
      let pu : length u ≤ 36 = omega arith in
      let pv : length v ≤ 36 = omega arith in
      let end : drop 36 u ≡ drop 36 v = drop_of_length-le u pu ∙ sym (drop_of_length-le v pv) in
      cut 0 8 8 refl (omega arith) a
      (cut 8 8 16 refl (omega arith) b (cut 16 8 24 refl (omega arith) c (cut 24 8 32 refl (omega arith) d (cut 32 4 36 refl (omega arith) e end))))

  abbrev eight : List ℕ → ℕ → ℕ
  eight l o = number (take 8 (drop o l))

  abbrev four : List ℕ → ℕ → ℕ
  four l o = number (take 4 (drop o l))

  abbrev equal : Bool
  equal =
      (((eqb (eight u 0) (eight v 0) && eqb (eight u 8) (eight v 8)) && eqb (eight u 16) (eight v 16)) && eqb (eight u 24) (eight v 24))
      && eqb (four u 32) (four v 32)

  same_of : equal ≡ true → decoded u ≡ decoded v
  same_of h =
      let h4 = and_true _ (eqb (four u 32) (four v 32)) h in
      let h3 = and_true _ (eqb (eight u 24) (eight v 24)) h4.0 in
      let h2 = and_true _ (eqb (eight u 16) (eight v 16)) h3.0 in
      let h1 = and_true (eqb (eight u 0) (eight v 0)) (eqb (eight u 8) (eight v 8)) h2.0 in
      ap decoded (five_equal (eqb-true _ _ h1.0) (eqb-true _ _ h1.1) (eqb-true _ _ h2.1) (eqb-true _ _ h3.1) (eqb-true _ _ h4.1))

  of_same : decoded u ≡ decoded v → equal ≡ true
  of_same e =
      let bytes : u ≡ v = sym (whole u bu lu) ∙ ap encoded e ∙ whole v bv lv in
      rw (
        eq-eqb (eight u 0) (eight v 0) (ap (λ t. eight t 0) bytes),
        eq-eqb (eight u 8) (eight v 8) (ap (λ t. eight t 8) bytes),
        eq-eqb (eight u 16) (eight v 16) (ap (λ t. eight t 16) bytes),
        eq-eqb (eight u 24) (eight v 24) (ap (λ t. eight t 24) bytes),
        eq-eqb (four u 32) (four v 32) (ap (λ t. four t 32) bytes),
      )

  -- two records are equal exactly where the five numbers are
  pub five_same : equal ≡ same (decoded u) (decoded v)
  five_same = decide equal (decoded u) (decoded v) same_of of_same

pub same_parts : (l m : List ℕ) (i c : ℕ) → take (36 * c) (drop (36 * i) l) ≡ take (36 * c) m → (k : ℕ) → k < c → record_in l (i + k) ≡ record_in m k
same_parts l m i c e k h =
    let z : 36 * (i + k) ≡ 36 * i + 36 * k = omega arith in
    rw z
    (ap decoded (sym (ap (take 36) (drop-drop (36 * k) (36 * i) l))
    ∙ sym (part (36 * k) 36 (36 * c) (drop (36 * i) l) (omega arith))
    ∙ ap (λ q. take 36 (drop (36 * k) q)) e
    ∙ part (36 * k) 36 (36 * c) m (omega arith)))
