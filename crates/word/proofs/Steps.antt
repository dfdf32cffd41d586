-- A key that is none of a list: in the form in which a `match` says so, and what place it has.
use Prim.Native.Nat.{ℕ, suc, ◌<◌}
use mathlib.Core.Path.{◌≡◌, refl}
use mathlib.Core.List.{List, [], ◌∷◌}
use native.Mathlib.Omega.{arith}
use lib.ListN.{length, get_or}
use borrow.Author.Tests.{ne_eqb}
use Rattle.word.specs.Lookup.{place_in}

-- the key is none of the list's, in the form in which a `match` says so
abbrev pub Nested : ℕ → List ℕ → Type 0 → Type 0
Nested key [] A = A
Nested key (k ∷ ks) A = Nested key ks (A × (key ≡ k → ⊥))

abbrev pub Apart : ℕ → List ℕ → Type 0
Apart key [] = Unit {0}
Apart key (k ∷ ks) = (key ≡ k → ⊥) × Apart key ks

pub apart : (key : ℕ) (ks : List ℕ) (A : Type 0) → Nested key ks A → A × Apart key ks
apart key [] A x = (x, tt)
apart key (k ∷ ks) A x = let r = apart key ks (A × (key ≡ k → ⊥)) x in (r.0.0, (r.0.1, r.1))

-- a key that stands nowhere in a list of keys leads nowhere
pub absent : (key n : ℕ) (ks : List ℕ) → ((j : ℕ) → j < length ks → get_or ks j 0 ≡ key → ⊥) → place_in n ks key ≡ 0
unfolding place_in
absent key n [] h = refl
absent key n (k ∷ ks) h = rw (ne_eqb k key (h 0 (omega arith))) (absent key (suc n) ks (λ j l. h (suc j) (omega arith)))
