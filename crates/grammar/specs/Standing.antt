-- What the theorems say of the records of a reading: where they stand, whose they are and where their names lie.
use Rattle.std.specs.Prelude.{ℕ, ◌+◌, ◌≤◌, ◌<◌, length}
use mathlib.Core.List.{List, [], ◌∷◌, Memᴰ}
use Rattle.record.specs.declared.Record.{Record}

-- P holds of each
abbrev pub Every : {B : Type 0} → (B → Type 0) → List B → Type 0
Every P [] = Unit {0}
Every P (b ∷ l) = P b × Every P l

-- each is below the next
abbrev pub Rising : List ℕ → Type 0
Rising [] = Unit {0}
Rising (p ∷ []) = Unit {0}
Rising (p ∷ q ∷ l) = (p < q) × Rising (q ∷ l)

abbrev pub places_of : List Record → List ℕ
places_of [] = []
places_of (r ∷ rs) = r.at ∷ places_of rs

-- each record's owner is one of those known, or the place of an earlier record
abbrev pub OwnedFrom : List ℕ → List Record → Type 0
OwnedFrom known [] = Unit {0}
OwnedFrom known (r ∷ rs) = Memᴰ r.owner known × OwnedFrom (r.at ∷ known) rs

-- a record's name lies within the text
abbrev pub NameWithin : List ℕ → Record → Type 0
NameWithin s r = r.name + r.len ≤ length s
