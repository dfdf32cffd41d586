-- The verdict accepts exactly the permutations of a rising list: each record is there once in both, or in neither.
use Prim.Native.Nat.{ℕ, ◌<◌}
use native.Mathlib.Decide.{dec_lt}
use native.Mathlib.Omega.{arith}
use mathlib.Core.Path.{◌≡◌, refl, sym, ap, ◌∙◌}
use mathlib.Core.Logic.{◌↔◌, inl, inr}
use mathlib.Core.Bool.{Bool, true, false}
use mathlib.Core.List.{List}
use lib.ListN.{length, take}
use Rattle.refusal.specs.Table.{refused, done}
use Rattle.record.specs.declared.Record.{Record}
use Rattle.verdict.specs.Verdict.{among, verdict}
use Rattle.verdict.specs.Meaning.{nth, In, Faulty, Lacking, None, Rises, count, AsOften, Permutation}
use Rattle.verdict.proofs.Laws.{among_in, in_among, among_not, not_among, among_here, take_length, take_at}
use Rattle.verdict.proofs.Counts.{count_some, count_none, count_among, New, new_once, twice, rises_once, as_often, reordered}
use Rattle.verdict.proofs.Cases.{done_iff}

-- what one list has the other has, where it has each as often
pub shared : (fs gs : List Record) → AsOften fs gs → (i : ℕ) → i < length fs → In (nth fs i) gs
shared fs gs o i h =
    in_among (nth fs i) gs (count_among (nth fs i) gs (omega (arith, count_some (nth fs i) fs (among_here fs i h), o (nth fs i))))

module _ (rs fs : List Record) (up : Rises rs) where
  accepted_often : None (length fs) (Faulty rs fs) → None (length rs) (Lacking rs fs) → AsOften fs rs
  accepted_often f g x = go (among x rs) refl (among x fs) refl
    where
      new : New fs
      new j h = among_not (nth fs j) (take j fs) (λ m.
          let q : m.0 < j = rw (take_length fs j (omega arith)) at m.1 in
          f j h (inr (m.0, q, m.2 ∙ take_at fs j m.0 q)))

      lost : (l : List Record) (j : ℕ) → x ≡ nth l j → (k : List Record) → among x k ≡ false → In (nth l j) k → ⊥
      lost l j e k h m = not_among x k h (m.0, m.1, e ∙ m.2)

      go : (a : Bool) → among x rs ≡ a → (b : Bool) → among x fs ≡ b → count x fs ≡ count x rs
      go true p true q = omega (arith, count_some x rs p, count_some x fs q, rises_once rs up x, new_once fs new x)
      go true p false q = let m = in_among x rs p in absurd (g m.0 m.1 (lost rs m.0 m.2 fs q))
      go false p true q = let m = in_among x fs q in absurd (f m.0 m.1 (inl (lost fs m.0 m.2 rs p)))
      go false p false q = omega (arith, count_none x rs p, count_none x fs q)

  often_sound : AsOften fs rs → None (length fs) (Faulty rs fs)
  often_sound o i h (inl f) = f (shared fs rs o i h)
  often_sound o i h (inr m) =
      let again = among_in (nth fs i) (take i fs) (m.0, rw (take_length fs i (omega arith)) m.1, m.2 ∙ sym (take_at fs i m.0 m.1)) in
      omega (arith, twice fs i h (nth fs i) refl again, o (nth fs i), rises_once rs up (nth fs i))

  often_full : AsOften fs rs → None (length rs) (Lacking rs fs)
  often_full o k h f = f (shared rs fs (λ x. sym (o x)) k h)

  pub order_iff : (verdict rs fs ≡ refused done 0 0) ↔ Permutation fs rs
  order_iff = (
    λ e. let z = (done_iff rs fs).0 e in reordered fs rs (accepted_often z.0 z.1),
    λ p. (done_iff rs fs).1 (often_sound (as_often p), often_full (as_often p)),
  )

-- records of a rising list with one `at` are one
pub one_at : (rs : List Record) → Rises rs → (x y : Record) → In x rs → In y rs → x.at ≡ y.at → x ≡ y
one_at rs up x y (i, h, p) (j, k, q) e =
    let here : i ≡ j = elim (dec_lt i j) [
      | yes l ↦ absurd (omega (arith, up i j l k, ap (λ r. r.at) p, ap (λ r. r.at) q))
      | no l ↦ elim (dec_lt j i) [
        | yes m ↦ absurd (omega (arith, up j i m h, ap (λ r. r.at) p, ap (λ r. r.at) q))
        | no m ↦ omega arith
      ]
    ] in
    p ∙ ap (nth rs) here ∙ sym q
