-- LISTS IN ORDER. A test `before` says of two things whether the first comes before the second.
use Rattle.std.specs.Prelude.{◌≡◌, ◌⊎◌, Bool, true, false, cond}
use mathlib.Core.List.{List, [], ◌∷◌, Memᴰ}

-- the test is an order: nothing comes before itself, what comes before what is before a third comes before that, and of two one of which
-- comes before the other a third comes after the one or before the other
pub record Order {A : Type 0} (before : A → A → Bool) : Type 0 where
  pub irreflexive : (a : A) → before a a ≡ false
  pub transitive : (a b c : A) → before a b ≡ true → before b c ≡ true → before a c ≡ true
  pub weak : (a b c : A) → before a b ≡ true → (before a c ≡ true) ⊎ (before c b ≡ true)

-- each comes before the next
abbrev pub Rising : {A : Type 0} → (A → A → Bool) → List A → Type 0
Rising before [] = Unit {0}
Rising before (a ∷ []) = Unit {0}
Rising before (a ∷ b ∷ l) = (before a b ≡ true) × Rising before (b ∷ l)

-- of any two one comes before the other
abbrev pub Apart : {A : Type 0} → (A → A → Bool) → List A → Type 0
Apart before [] = Unit {0}
Apart {A} before (a ∷ l) = ((b : A) → Memᴰ b l → (before a b ≡ true) ⊎ (before b a ≡ true)) × Apart before l

-- a put before the first that it comes before
unfoldable pub insert : {A : Type 0} → (A → A → Bool) → A → List A → List A
insert before a [] = a ∷ []
insert before a (b ∷ l) = cond (before a b) (a ∷ b ∷ l) (b ∷ insert before a l)

-- each put in its place
unfoldable pub sorted : {A : Type 0} → (A → A → Bool) → List A → List A
sorted before [] = []
sorted before (a ∷ l) = insert before a (sorted before l)
