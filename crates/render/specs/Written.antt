-- WRITING: what it answers, and what it leaves in the buffer.
use Rattle.std.specs.Prelude.{ℕ, Bool, cond, List, [], ◌++◌, leb, eqb, length, drop}
use Rattle.refusal.specs.declared.Refusal.{Refusal}
use Rattle.refusal.specs.Table.{refused, done, text_room}
use Rattle.grammar.specs.Reading.{Reading, records, refusal_of, reading}
use Rattle.verdict.specs.Verdict.{checked}
use Rattle.render.specs.Plain.{aside}
use Rattle.render.specs.Lines.{render}

-- the text that the records of a reading are written as
abbrev pub written_as : List ℕ → Reading → List ℕ
written_as s (records rs) = render (aside s rs)
written_as s (refusal_of r) = []

abbrev pub canonical : List ℕ → List ℕ
canonical s = written_as s (reading s)

-- the checker's answer; and where it accepts, done with the bytes written, or 12 with the bytes needed
abbrev pub room_for : List ℕ → ℕ → Refusal
room_for t room = cond (leb (length t) room) (refused done (length t) 0) (refused text_room (length t) 0)

abbrev pub accepted : Refusal → Bool
accepted r = eqb r.number done

unfoldable pub written : List ℕ → List ℕ → ℕ → Refusal
written s file room =
    let c = checked (reading s) file in
    cond (accepted c) (room_for (canonical s) room) c

-- the buffer afterwards: the text from the front and the rest kept; on every refusal as it was
unfoldable pub filled : List ℕ → List ℕ → List ℕ → List ℕ
filled s file out =
    cond (accepted (written s file (length out))) (canonical s ++ drop (length (canonical s)) out) out
