-- A text laid into a buffer at a place, where there is room for it.
use Rattle.std.specs.Prelude.{ℕ, ◌+◌, Bool, cond, List, length, leb, Option, Some, None}
use Rattle.std.proofs.lemmas.List.Edits.{sets}

-- whether the text ends within the buffer
abbrev pub room : List ℕ → ℕ → List ℕ → Bool
room out at text = leb (at + length text) (length out)

-- the place after the text, where there is room
abbrev pub written_of : List ℕ → ℕ → List ℕ → Option ℕ
written_of out at text = cond (room out at text) (Some (at + length text)) None

-- the buffer with the text stored from `at` on, where there is room; else as it was
abbrev pub laid : List ℕ → ℕ → List ℕ → List ℕ
laid out at text = cond (room out at text) (sets out at text) out
