-- Inner machinery, which nobody has to believe: what writing answers.
use Rattle.std.specs.Prelude.{ℕ, ◌≡◌, cond, List, ◌++◌, length, drop, Result}
use Rattle.refusal.specs.declared.Refusal.{Refusal}
use Rattle.refusal.specs.Table.{outcome}
use Rattle.record.specs.declared.Record.{Record}
use Rattle.grammar.specs.Reading.{records, reading}
use Rattle.render.specs.Written.{canonical, room_for, accepted, written, filled}

-- an answer, and the buffer as it is left
abbrev pub Answers : List ℕ → List ℕ → List ℕ → Result ℕ Refusal → List ℕ → Type 0
Answers s file out r exit = (r ≡ outcome (written s file (length out))) × (exit ≡ filled s file out)

-- the same as a refusal, where the checker has accepted the file
abbrev pub Tells : List ℕ → List ℕ → Refusal → List ℕ → Type 0
Tells s out r exit =
    (r ≡ room_for (canonical s) (length out))
    × (exit ≡ cond (accepted (room_for (canonical s) (length out))) (canonical s ++ drop (length (canonical s)) out) out)

-- the text is read to its end
abbrev pub Reads : List ℕ → Type 0
Reads s = (rs : List Record) × (reading s ≡ records rs)
