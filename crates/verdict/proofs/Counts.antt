-- Permutations are the lists that have each record equally often: each record of the one is pulled to the front of the other.
use Prim.Native.Nat.{ℕ, zero, suc, ◌≤◌, ◌<◌, zero-le, suc-le-suc}
use native.Mathlib.Nat.{le_of_suc-le-suc, not-suc-le-zero}
use native.Mathlib.Omega.{arith}
use mathlib.Core.Path.{◌≡◌, refl, sym, ap, ◌∙◌}
use mathlib.Core.Bool.{Bool, true, false, cond, ◌||◌, true≢false, false≢true}
use mathlib.Core.List.Permᴰ
use mathlib.Core.List.{List, [], ◌∷◌}
use lib.ListN.{length, take}
use Rattle.record.specs.declared.Record.{Record}
use Rattle.verdict.specs.Verdict.{same, among}
use Rattle.verdict.specs.Meaning.{nth, In, Rises, count, AsOften, Permutation}
use Rattle.verdict.proofs.Laws.{or_left, or_right, same_self, same_true, same_equal, among_not, among_here, take_length, take_at}

-- a record is counted where it is among the records
pub count_some : (x : Record) (l : List Record) → among x l ≡ true → 1 ≤ count x l
unfolding among count
count_some x [] h = absurd (false≢true h)
count_some x (y ∷ l) h = go (same x y) h (count_some x l)
  where
    go : (b : Bool) → (b || among x l) ≡ true → (among x l ≡ true → 1 ≤ count x l) → 1 ≤ cond b (suc (count x l)) (count x l)
    go true p r = suc-le-suc zero-le
    go false p r = r p

pub count_none : (x : Record) (l : List Record) → among x l ≡ false → count x l ≡ 0
unfolding among count
count_none x [] h = refl
count_none x (y ∷ l) h = go (same x y) h (count_none x l)
  where
    go : (b : Bool) → (b || among x l) ≡ false → (among x l ≡ false → count x l ≡ 0) → cond b (suc (count x l)) (count x l) ≡ 0
    go true p r = absurd (true≢false p)
    go false p r = r p

pub count_among : (x : Record) (l : List Record) → 1 ≤ count x l → among x l ≡ true
count_among x l h = go (among x l) refl
  where
    go : (b : Bool) → among x l ≡ b → b ≡ true
    go true e = refl
    go false e = absurd (omega (arith, count_none x l e))

-- ONCE AND TWICE

-- no record is equal to an earlier one
abbrev pub New : List Record → Type 0
New l = (j : ℕ) → j < length l → among (nth l j) (take j l) ≡ false

pub new_once : (l : List Record) → New l → (x : Record) → count x l ≤ 1
unfolding among count
new_once [] n x = zero-le
new_once (y ∷ l) n x = go (same x y) refl (new_once l (λ j h. or_right (same (nth l j) y) (among (nth l j) (take j l)) (n (suc j) (suc-le-suc h))) x)
  where
    apart : x ≡ y → In x l → ⊥
    apart e (k, h, q) = true≢false (sym (same_true (nth l k) y (sym q ∙ e)) ∙ or_left (same (nth l k) y) (among (nth l k) (take k l)) (n (suc k) (suc-le-suc h)))

    go : (b : Bool) → same x y ≡ b → count x l ≤ 1 → cond b (suc (count x l)) (count x l) ≤ 1
    go true e r = omega (arith, count_none x l (among_not x l (apart (same_equal x y e))))
    go false e r = r

pub twice : (l : List Record) (j : ℕ) → j < length l → (x : Record) → x ≡ nth l j → among x (take j l) ≡ true → 2 ≤ count x l
unfolding among count
twice [] j h x e p = absurd (not-suc-le-zero h)
twice (y ∷ l) zero h x e p = absurd (false≢true p)
twice (y ∷ l) (suc j) h x e p = go (same x y) p (twice l j (le_of_suc-le-suc h) x e)
  where
    go : (b : Bool) → (b || among x (take j l)) ≡ true → (among x (take j l) ≡ true → 2 ≤ count x l) → 2 ≤ cond b (suc (count x l)) (count x l)
    go true q r = suc-le-suc (count_some x l (rw e (among_here l j (le_of_suc-le-suc h))))
    go false q r = r q

-- rising records are each there once
rises_new : (l : List Record) → Rises l → New l
rises_new l up j h =
    among_not (nth l j) (take j l) (λ m.
    let q : m.0 < j = rw (take_length l j (omega arith)) at m.1 in
    absurd (omega (arith, up m.0 j q h, ap (λ r. r.at) (m.2 ∙ take_at l j m.0 q))))

pub rises_once : (l : List Record) → Rises l → (x : Record) → count x l ≤ 1
rises_once l up = new_once l (rises_new l up)

-- PERMUTATIONS

count_head : (x a b : Record) (k l : List Record) → a ≡ b → count x k ≡ count x l → count x (a ∷ k) ≡ count x (b ∷ l)
unfolding count
count_head x a b k l e h = rw (e, h)

count_swap : (x a b : Record) (l : List Record) → count x (a ∷ b ∷ l) ≡ count x (b ∷ a ∷ l)
unfolding count
count_swap x a b l = go (same x a) (same x b)
  where
    go : (p q : Bool) → cond p (suc (cond q (suc (count x l)) (count x l))) (cond q (suc (count x l)) (count x l))
        ≡ cond q (suc (cond p (suc (count x l)) (count x l))) (cond p (suc (count x l)) (count x l))
    go true true = refl
    go true false = refl
    go false true = refl
    go false false = refl

pub as_often : {k l : List Record} → Permutation k l → AsOften k l
as_often Permᴰ.nil x = refl
as_often (Permᴰ.cons {a} {b} {l₁ = k} {l₂ = l} e d) x = count_head x a b k l e (as_often d x)
as_often (Permᴰ.swap {a} {b} {a'} {b'} {l} p q) x =
    count_swap x a b l ∙ count_head x b a' (a ∷ l) (b' ∷ l) q (count_head x a b' l l p refl)
as_often (Permᴰ.trans d e) x = as_often d x ∙ as_often e x

-- a record of a list, and the others
record Pulled (x : Record) (l : List Record) : Type 0 where
  others : List Record
  order : Permutation (x ∷ others) l

pulled : (x : Record) (l : List Record) → among x l ≡ true → Pulled x l
unfolding among
pulled x [] h = absurd (false≢true h)
pulled x (y ∷ l) h = go (same x y) refl h (pulled x l)
  where
    go : (b : Bool) → same x y ≡ b → (b || among x l) ≡ true → (among x l ≡ true → Pulled x l) → Pulled x (y ∷ l)
    go true e p r = record { others = l; order = Permᴰ.cons (same_equal x y e) (Permᴰ.refl l) }
    go false e p r =
        let z = r p in
        record { others = y ∷ z.others; order = Permᴰ.trans (Permᴰ.swap refl refl) (Permᴰ.cons refl z.order) }

count_self : (x : Record) (l : List Record) → count x (x ∷ l) ≡ suc (count x l)
unfolding count
count_self x l = rw (same_self x)

less_head : (x a : Record) (k l : List Record) → count x (a ∷ k) ≡ count x (a ∷ l) → count x k ≡ count x l
unfolding count
less_head x a k l h = go (same x a) h
  where
    go : (b : Bool) → cond b (suc (count x k)) (count x k) ≡ cond b (suc (count x l)) (count x l) → count x k ≡ count x l
    go true e = omega arith
    go false e = e

nothing : (x : Record) → count x [] ≡ 0
unfolding count
nothing x = refl

pub reordered : (k l : List Record) → AsOften k l → Permutation k l
reordered [] [] h = Permᴰ.nil
reordered [] (y ∷ l) h = absurd (omega (arith, h y, count_self y l, nothing y))
reordered (x ∷ k) l h =
    let z = pulled x l (count_among x l (omega (arith, h x, count_self x k))) in
    Permᴰ.trans (Permᴰ.cons refl (reordered k z.others (λ y. less_head y x k z.others (h y ∙ sym (as_often z.order y))))) z.order
