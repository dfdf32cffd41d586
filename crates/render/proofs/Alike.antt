-- What is said of a list that is written and read again: its records stand at indexes, those that are read at places of the text.
use Prim.Native.Nat.{ℕ, ◌<◌}
use mathlib.Core.Path.{◌≡◌}
use mathlib.Core.List.{List, [], ◌∷◌, ◌++◌}
use lib.ListN.{length, get_or}
use Rattle.grammar.specs.Engine.{Maybe, none, some, Rec, Frame}
use Rattle.grammar.specs.Turns.{State}
use Rattle.render.specs.Plain.{Plain}
use Rattle.render.proofs.Stands.{Like}

-- the library in both, or the index of a record that was read and its place; `seen` has the places of those that were read
abbrev pub Owner : List ℕ → Maybe ℕ → Maybe ℕ → Type 0
Owner seen none none = Unit {0}
Owner seen none (some p) = ⊥
Owner seen (some i) none = ⊥
Owner seen (some i) (some p) = (i < length seen) × (get_or seen i 0 ≡ p)

-- an open block of the writer, and that of the reader
pub record Matches (seen : List ℕ) (f g : Frame ℕ) : Type 0 where
  pub block : f.block ≡ g.block
  pub at : Owner seen f.at g.at
  pub label : f.label ≡ g.label
  pub lacks : f.lacks ≡ g.lacks

abbrev pub AllMatch : List ℕ → List (Frame ℕ) → List (Frame ℕ) → Type 0
AllMatch seen [] [] = Unit {0}
AllMatch seen [] (g ∷ gs) = ⊥
AllMatch seen (f ∷ fs) [] = ⊥
AllMatch seen (f ∷ fs) (g ∷ gs) = Matches seen f g × AllMatch seen fs gs

abbrev pub Corresponds : List ℕ → State ℕ → State ℕ → Type 0
Corresponds seen s t = (s.version ≡ t.version) × AllMatch seen s.blocks t.blocks

-- records that are read say what the records of a list say, and their owners are those of the list
abbrev pub Alike : List ℕ → List Plain → List (Rec ℕ) → Type 0
Alike seen [] [] = Unit {0}
Alike seen [] (q ∷ qs) = ⊥
Alike seen (r ∷ rs) [] = ⊥
Alike seen (r ∷ rs) (q ∷ qs) = Like q r × (r.at ≡ length seen) × Owner seen r.owner q.owner × Alike (seen ++ (q.at ∷ [])) rs qs
