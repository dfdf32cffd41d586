-- Keys are in order by `before`, and of two that differ one comes before the other: owners and `at` go by number, names byte by byte.
use Prim.Native.Nat.{ℕ, ◌<◌}
use mathlib.Core.Path.{◌≡◌, refl, ap, sym, ◌∙◌}
use mathlib.Core.Logic.{◌⊎◌, inl, inr, ⊎_elim}
use mathlib.Core.Bool.{Bool, true, false, ◌&&◌, ◌||◌, true≢false, false≢true}
use mathlib.Core.List.{List, [], ◌∷◌}
use native.Mathlib.Decide.{dec_lt}
use native.Mathlib.Omega.{arith}
use borrow.Author.Tests.{ltb-true, ltb-false, eqb-true, lt-ltb, le-ltb, eq-eqb}
use lib.Dec.{eqb, ltb}
use Rattle.ordered.specs.Order.{Order}
use Rattle.entry.specs.declared.Entry.{Entry}
use Rattle.entry.specs.Order.{Key, key, ahead, alike, before, precedes, key_of}

-- TESTS

both : (a b : Bool) → (a && b) ≡ true → (a ≡ true) × (b ≡ true)
both true b h = (refl, h)
both false b h = absurd (false≢true h)

either : (a b : Bool) → (a || b) ≡ true → (a ≡ true) ⊎ (b ≡ true)
either true b h = inl refl
either false b h = inr h

neither : (a b : Bool) → (a || b) ≡ false → (a ≡ false) × (b ≡ false)
neither true b h = absurd (true≢false h)
neither false b h = (refl, h)

-- a test that cannot hold fails
false_of : (b : Bool) → (b ≡ true → ⊥) → b ≡ false
false_of true h = absurd (h refl)
false_of false h = refl

-- NAMES

pub alike_same : (a b : List ℕ) → alike a b ≡ true → a ≡ b
unfolding alike
alike_same [] [] h = refl
alike_same [] (c ∷ b) h = absurd (false≢true h)
alike_same (d ∷ a) [] h = absurd (false≢true h)
alike_same (d ∷ a) (c ∷ b) h =
    let t = both (eqb d c) (alike a b) h in
    rw (eqb-true d c t.0, alike_same a b t.1)

pub same_alike : (a : List ℕ) → alike a a ≡ true
unfolding alike
same_alike [] = refl
same_alike (d ∷ a) = rw (eq-eqb d d refl, same_alike a)

-- the first byte is less, or it is the same and the rest is ahead
ahead_cases : (d c : ℕ) (a b : List ℕ) → ahead (d ∷ a) (c ∷ b) ≡ true → (d < c) ⊎ ((d ≡ c) × (ahead a b ≡ true))
unfolding ahead
ahead_cases d c a b h = ⊎_elim (λ l. inl (ltb-true d c l)) (λ t. inr (same (both (eqb d c) (ahead a b) t))) (either (ltb d c) (eqb d c && ahead a b) h)
  where
    same : (eqb d c ≡ true) × (ahead a b ≡ true) → (d ≡ c) × (ahead a b ≡ true)
    same t = (eqb-true d c t.0, t.1)

ahead_less : (d c : ℕ) (a b : List ℕ) → d < c → ahead (d ∷ a) (c ∷ b) ≡ true
unfolding ahead
ahead_less d c a b l = rw (lt-ltb d c l)

ahead_rest : (d c : ℕ) (a b : List ℕ) → d ≡ c → ahead a b ≡ true → ahead (d ∷ a) (c ∷ b) ≡ true
unfolding ahead
ahead_rest d c a b e h = rw (le-ltb d c (omega arith), eq-eqb d c e, h)

pub ahead_irreflexive : (a : List ℕ) → ahead a a ≡ false
unfolding ahead
ahead_irreflexive [] = refl
ahead_irreflexive (d ∷ a) = rw (le-ltb d d (omega arith), eq-eqb d d refl, ahead_irreflexive a)

pub ahead_transitive : (a b c : List ℕ) → ahead a b ≡ true → ahead b c ≡ true → ahead a c ≡ true
unfolding ahead
ahead_transitive a b [] h k = absurd (false≢true k)
ahead_transitive a [] (z ∷ c) h k = absurd (false≢true h)
ahead_transitive [] (y ∷ b) (z ∷ c) h k = refl
ahead_transitive (x ∷ a) (y ∷ b) (z ∷ c) h k = go (ahead_cases x y a b h) (ahead_cases y z b c k) (ahead_transitive a b c)
  where
    go : (x < y) ⊎ ((x ≡ y) × (ahead a b ≡ true)) → (y < z) ⊎ ((y ≡ z) × (ahead b c ≡ true))
        → (ahead a b ≡ true → ahead b c ≡ true → ahead a c ≡ true) → ahead (x ∷ a) (z ∷ c) ≡ true
    go (inl l) (inl m) f = ahead_less x z a c (omega arith)
    go (inl l) (inr m) f = ahead_less x z a c (omega (arith, m.0))
    go (inr l) (inl m) f = ahead_less x z a c (omega (arith, l.0))
    go (inr l) (inr m) f = ahead_rest x z a c (omega (arith, l.0, m.0)) (f l.1 m.1)

-- two names of which neither is ahead of the other are the same
pub ahead_connected : (a b : List ℕ) → ahead a b ≡ false → ahead b a ≡ false → a ≡ b
unfolding ahead
ahead_connected [] [] h k = refl
ahead_connected [] (c ∷ b) h k = absurd (true≢false h)
ahead_connected (d ∷ a) [] h k = absurd (true≢false k)
ahead_connected (d ∷ a) (c ∷ b) h k =
    let s = neither (ltb d c) (eqb d c && ahead a b) h in
    let t = neither (ltb c d) (eqb c d && ahead b a) k in
    let e : d ≡ c = omega (arith, ltb-false d c s.0, ltb-false c d t.0) in
    let f : c ≡ d = omega arith in
    rw (e, ahead_connected a b (rw (eq-eqb d c e) at s.1) (rw (eq-eqb c d f) at t.1))

-- a name that is ahead of another is not alike, and the other way round
pub ahead_alike : (a b : List ℕ) → ahead a b ≡ true → alike a b ≡ false
ahead_alike a b h = false_of (alike a b) (λ k. true≢false (sym h ∙ (ap (ahead a) (sym (alike_same a b k)) ∙ ahead_irreflexive a)))

pub alike_ahead : (a b : List ℕ) → alike a b ≡ true → ahead a b ≡ false
alike_ahead a b h = rw (alike_same a b h) (ahead_irreflexive b)

-- KEYS

-- the owner is less; or it is the same and the name is ahead; or owner and name are the same and `at` is less
pub data Before (x y : Key) : Type 0 where
  by_owner : x.owner < y.owner → Before x y
  by_name : x.owner ≡ y.owner → ahead x.name y.name ≡ true → Before x y
  by_at : x.owner ≡ y.owner → x.name ≡ y.name → x.at < y.at → Before x y

-- that is what `before` tests
pub to_before : {x y : Key} → Before x y → before x y ≡ true
unfolding before
to_before {x} {y} (by_owner l) = rw (lt-ltb x.owner y.owner l)
to_before {x} {y} (by_name e h) = rw (le-ltb x.owner y.owner (omega arith), eq-eqb x.owner y.owner e, h)
to_before {x} {y} (by_at e n l) =
    rw (
      le-ltb x.owner y.owner (omega arith),
      eq-eqb x.owner y.owner e,
      n,
      ahead_irreflexive y.name,
      same_alike y.name,
      lt-ltb x.at y.at l,
    )

pub of_before : (x y : Key) → before x y ≡ true → Before x y
unfolding before
of_before x y h =
    ⊎_elim (λ l. by_owner (ltb-true x.owner y.owner l)) (λ t. later (both (eqb x.owner y.owner) rest t)) (either (ltb x.owner y.owner) (eqb x.owner y.owner && rest) h)
  where
    rest : Bool
    rest = ahead x.name y.name || (alike x.name y.name && ltb x.at y.at)

    last : x.owner ≡ y.owner → (alike x.name y.name ≡ true) × (ltb x.at y.at ≡ true) → Before x y
    last e t = by_at e (alike_same x.name y.name t.0) (ltb-true x.at y.at t.1)

    later : (eqb x.owner y.owner ≡ true) × (rest ≡ true) → Before x y
    later t =
        let e = eqb-true x.owner y.owner t.0 in
        ⊎_elim (λ n. by_name e n) (λ u. last e (both (alike x.name y.name) (ltb x.at y.at) u)) (either (ahead x.name y.name) (alike x.name y.name && ltb x.at y.at) t.1)

pub before_irreflexive : (x : Key) → before x x ≡ false
before_irreflexive x = false_of (before x x) (λ h. go (of_before x x h))
  where
    go : Before x x → ⊥
    go (by_owner l) = omega arith
    go (by_name e n) = true≢false (sym n ∙ ahead_irreflexive x.name)
    go (by_at e n l) = omega arith

pub before_transitive : (x y z : Key) → before x y ≡ true → before y z ≡ true → before x z ≡ true
before_transitive x y z h k = to_before (go (of_before x y h) (of_before y z k))
  where
    go : Before x y → Before y z → Before x z
    go (by_owner l) (by_owner m) = by_owner (omega arith)
    go (by_owner l) (by_name e n) = by_owner (omega arith)
    go (by_owner l) (by_at e n m) = by_owner (omega arith)
    go (by_name e n) (by_owner m) = by_owner (omega arith)
    go (by_name e n) (by_name f o) = by_name (e ∙ f) (ahead_transitive x.name y.name z.name n o)
    go (by_name e n) (by_at f o m) = by_name (e ∙ f) (rw o at n)
    go (by_at e n l) (by_owner m) = by_owner (omega arith)
    go (by_at e n l) (by_name f o) = by_name (e ∙ f) (rw n o)
    go (by_at e n l) (by_at f o m) = by_at (e ∙ f) (n ∙ o) (omega arith)

same_number : (m n : ℕ) → (m < n → ⊥) → (n < m → ⊥) → m ≡ n
same_number m n h k = elim (dec_lt m n) [ yes l ↦ absurd (h l) | no l ↦ elim (dec_lt n m) [ yes g ↦ absurd (k g) | no g ↦ omega arith ] ]

same_key : (o p : ℕ) (n m : List ℕ) (a b : ℕ) → o ≡ p → n ≡ m → a ≡ b → key o n a ≡ key p m b
same_key o p n m a b e f g = rw (e, f, g)

-- two keys of which neither comes before the other are the same
pub before_connected : (x y : Key) → before x y ≡ false → before y x ≡ false → x ≡ y
before_connected x y h k =
    same_key x.owner y.owner x.name y.name x.at y.at owners names (same_number x.at y.at (λ l. not_xy (by_at owners names l)) (λ l. not_yx (by_at (sym owners) (sym names) l)))
  where
    not_xy : Before x y → ⊥
    not_xy b = true≢false (sym (to_before b) ∙ h)

    not_yx : Before y x → ⊥
    not_yx b = true≢false (sym (to_before b) ∙ k)

    owners : x.owner ≡ y.owner
    owners = same_number x.owner y.owner (λ l. not_xy (by_owner l)) (λ l. not_yx (by_owner l))

    names : x.name ≡ y.name
    names =
        ahead_connected x.name y.name (false_of (ahead x.name y.name) (λ t. not_xy (by_name owners t))) (false_of (ahead y.name x.name) (λ t. not_yx (by_name (sym owners) t)))

before_weak : (x y z : Key) → before x y ≡ true → (before x z ≡ true) ⊎ (before z y ≡ true)
before_weak x y z h = go (before x z) (before z x) refl refl
  where
    go : (p q : Bool) → before x z ≡ p → before z x ≡ q → (before x z ≡ true) ⊎ (before z y ≡ true)
    go true q e f = inl e
    go false true e f = inr (before_transitive z x y f h)
    go false false e f = inr (rw (before_connected x z e f) at h)

pub key_order : Order before
key_order = record { irreflexive = before_irreflexive; transitive = before_transitive; weak = before_weak }

-- ENTRIES

pub precedes_order : (s : List ℕ) → Order (precedes s)
precedes_order s =
    record {
      irreflexive = λ e. before_irreflexive (key_of s e);
      transitive = λ e f g. before_transitive (key_of s e) (key_of s f) (key_of s g);
      weak = λ e f g. before_weak (key_of s e) (key_of s f) (key_of s g);
    }

-- of two entries with different `at` one comes before the other
pub apart : (s : List ℕ) (e f : Entry) → (e.at ≡ f.at → ⊥) → (precedes s e f ≡ true) ⊎ (precedes s f e ≡ true)
apart s e f h = go (precedes s e f) (precedes s f e) refl refl
  where
    go : (p q : Bool) → precedes s e f ≡ p → precedes s f e ≡ q → (precedes s e f ≡ true) ⊎ (precedes s f e ≡ true)
    go true q a b = inl a
    go false true a b = inr b
    go false false a b = absurd (h (ap (λ (k : Key). k.at) (before_connected (key_of s e) (key_of s f) a b)))
