-- The laws of equal records, of being among records, and of the first number of which a test holds, each by going through its definition.
use Prim.Native.Nat.{ℕ, zero, suc, ◌≤◌, ◌<◌, zero-le, suc-le-suc}
use native.Mathlib.Nat.{le_of_suc-le-suc, not-suc-le-zero}
use mathlib.Core.Path.{◌≡◌, refl, sym, ap, ◌∙◌}
use mathlib.Core.Bool.{Bool, true, false, cond, ◌&&◌, ◌||◌, true≢false, false≢true, or-true}
use mathlib.Core.List.{List, [], ◌∷◌}
use lib.Dec.{eqb}
use lib.ListN.{length, take}
use borrow.Author.Tests.{eq-eqb, eqb-true}
use Rattle.record.specs.declared.Record.{Record}
use Rattle.verdict.specs.Verdict.{same, among, first}
use Rattle.verdict.specs.Meaning.{nth, In}

-- EQUAL RECORDS

and_true : (a b : Bool) → (a && b) ≡ true → (a ≡ true) × (b ≡ true)
and_true true b h = (refl, h)
and_true false b h = absurd (false≢true h)

pub or_left : (a b : Bool) → (a || b) ≡ false → a ≡ false
or_left true b h = h
or_left false b h = refl

pub or_right : (a b : Bool) → (a || b) ≡ false → b ≡ false
or_right true b h = absurd (true≢false h)
or_right false b h = h

-- records that agree in every field are equal
pub by_fields : (x y : Record)
    → x.kind ≡ y.kind → x.code ≡ y.code → x.spare ≡ y.spare → x.at ≡ y.at → x.owner ≡ y.owner
    → x.name ≡ y.name → x.len ≡ y.len → x.x ≡ y.x → x.y ≡ y.y → x ≡ y
by_fields x y k c s a o n l p q =
    λ i. record { kind = k i; code = c i; spare = s i; at = a i; owner = o i; name = n i; len = l i; x = p i; y = q i }

pub same_self : (x : Record) → same x x ≡ true
unfolding same
same_self x = rw (
  eq-eqb x.kind x.kind refl,
  eq-eqb x.code x.code refl,
  eq-eqb x.spare x.spare refl,
  eq-eqb x.at x.at refl,
  eq-eqb x.owner x.owner refl,
  eq-eqb x.name x.name refl,
  eq-eqb x.len x.len refl,
  eq-eqb x.x x.x refl,
  eq-eqb x.y x.y refl,
)

pub same_true : (x y : Record) → x ≡ y → same x y ≡ true
same_true x y e = ap (same x) (sym e) ∙ same_self x

pub same_equal : (x y : Record) → same x y ≡ true → x ≡ y
unfolding same
same_equal x y h =
    let h8 = and_true _ (eqb x.y y.y) h in
    let h7 = and_true _ (eqb x.x y.x) h8.0 in
    let h6 = and_true _ (eqb x.len y.len) h7.0 in
    let h5 = and_true _ (eqb x.name y.name) h6.0 in
    let h4 = and_true _ (eqb x.owner y.owner) h5.0 in
    let h3 = and_true _ (eqb x.at y.at) h4.0 in
    let h2 = and_true _ (eqb x.spare y.spare) h3.0 in
    let h1 = and_true (eqb x.kind y.kind) (eqb x.code y.code) h2.0 in
    by_fields x y (eqb-true _ _ h1.0) (eqb-true _ _ h1.1) (eqb-true _ _ h2.1) (eqb-true _ _ h3.1) (eqb-true _ _ h4.1)
    (eqb-true _ _ h5.1) (eqb-true _ _ h6.1) (eqb-true _ _ h7.1) (eqb-true _ _ h8.1)

pub same_false : (x y : Record) → (x ≡ y → ⊥) → same x y ≡ false
same_false x y h = go (same x y) refl
  where
    go : (b : Bool) → same x y ≡ b → b ≡ false
    go true e = absurd (h (same_equal x y e))
    go false e = refl

-- AMONG RECORDS, by their index

pub among_in : (x : Record) (l : List Record) → In x l → among x l ≡ true
unfolding among
among_in x [] m = absurd (not-suc-le-zero m.1)
among_in x (y ∷ l) (zero, h, e) = rw (same_true x y e)
among_in x (y ∷ l) (suc j, h, e) = rw (among_in x l (j, le_of_suc-le-suc h, e)) (or-true (same x y))

pub among_not : (x : Record) (l : List Record) → (In x l → ⊥) → among x l ≡ false
unfolding among
among_not x [] u = refl
among_not x (y ∷ l) u = rw (same_false x y (λ e. u (0, suc-le-suc zero-le, e))) (among_not x l (λ m. u (suc m.0, suc-le-suc m.1, m.2)))

pub in_among : (x : Record) (l : List Record) → among x l ≡ true → In x l
unfolding among
in_among x [] h = absurd (false≢true h)
in_among x (y ∷ l) h = go (same x y) refl h (in_among x l)
  where
    go : (b : Bool) → same x y ≡ b → (b || among x l) ≡ true → (among x l ≡ true → In x l)
        → In x (y ∷ l)
    go true p q r = (0, suc-le-suc zero-le, same_equal x y p)
    go false p q r = let z = r q in (suc z.0, suc-le-suc z.1, z.2)

pub not_among : (x : Record) (l : List Record) → among x l ≡ false → In x l → ⊥
not_among x l h m = true≢false (sym (among_in x l m) ∙ h)

pub among_here : (l : List Record) (j : ℕ) → j < length l → among (nth l j) l ≡ true
among_here l j h = among_in (nth l j) l (j, h, refl)

-- the records before an index
pub take_length : (l : List Record) (i : ℕ) → i ≤ length l → length (take i l) ≡ i
take_length l zero h = refl
take_length [] (suc i) h = absurd (not-suc-le-zero h)
take_length (y ∷ l) (suc i) h = ap suc (take_length l i (le_of_suc-le-suc h))

pub take_at : (l : List Record) (i j : ℕ) → j < i → nth (take i l) j ≡ nth l j
take_at l zero j h = absurd (not-suc-le-zero h)
take_at [] (suc i) j h = refl
take_at (y ∷ l) (suc i) zero h = refl
take_at (y ∷ l) (suc i) (suc j) h = take_at l i j (le_of_suc-le-suc h)

-- THE FIRST NUMBER

pub first_is : (n : ℕ) (p : ℕ → Bool) (i : ℕ) → i ≤ n → ((j : ℕ) → j < i → p j ≡ false) → (i < n → p i ≡ true) → first n p ≡ i
unfolding first
first_is zero p zero l b t = refl
first_is zero p (suc i) l b t = absurd (not-suc-le-zero l)
first_is (suc n) p zero l b t = rw (t (suc-le-suc zero-le))
first_is (suc n) p (suc i) l b t =
    rw (b 0 (suc-le-suc zero-le))
    (ap suc (first_is n (λ j. p (suc j)) i (le_of_suc-le-suc l) (λ j h. b (suc j) (suc-le-suc h)) (λ h. t (suc-le-suc h))))

pub first_before : (n : ℕ) (p : ℕ → Bool) (j : ℕ) → j < first n p → p j ≡ false
unfolding first
first_before zero p j h = absurd (not-suc-le-zero h)
first_before (suc n) p j h = go (p 0) refl j h (first_before n (λ i. p (suc i)))
  where
    go : (b : Bool) → p 0 ≡ b → (j : ℕ) → j < cond b 0 (suc (first n (λ i. p (suc i))))
        → ((i : ℕ) → i < first n (λ i. p (suc i)) → p (suc i) ≡ false) → p j ≡ false
    go true e j l r = absurd (not-suc-le-zero l)
    go false e zero l r = e
    go false e (suc i) l r = r i (le_of_suc-le-suc l)

pub first_at : (n : ℕ) (p : ℕ → Bool) → first n p < n → p (first n p) ≡ true
unfolding first
first_at zero p h = absurd (not-suc-le-zero h)
first_at (suc n) p h = go (p 0) refl h (first_at n (λ i. p (suc i)))
  where
    go : (b : Bool) → p 0 ≡ b → cond b 0 (suc (first n (λ i. p (suc i)))) < suc n
        → (first n (λ i. p (suc i)) < n → p (suc (first n (λ i. p (suc i)))) ≡ true)
        → p (cond b 0 (suc (first n (λ i. p (suc i))))) ≡ true
    go true e h r = e
    go false e h r = r (le_of_suc-le-suc h)
