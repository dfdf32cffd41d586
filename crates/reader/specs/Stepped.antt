-- Inner machinery, which nobody has to believe: what a step does to the open blocks, with records as the file has them.
use Rattle.std.specs.Prelude.{ℕ, List, ◌∷◌}
use Rattle.lexer.specs.declared.Token.{Token}
use Rattle.record.specs.declared.Record.{Record}
use Rattle.grammar.specs.Table.{body}
use Rattle.grammar.specs.Engine.{Rec, Frame}
use Rattle.grammar.specs.Turns as T
use Rattle.grammar.specs.Turns.{shift, leave, become, state}
use Rattle.grammar.specs.Reading.{Mark, filed}
use Rattle.parser.specs.Code.{ahead_of}
use Rattle.parser.specs.Drafts.{Entry}

abbrev pub filed_turn : T.Turn ℕ Mark (Rec ℕ) → T.Turn ℕ Mark Record
filed_turn (T.emit r s a) = T.emit (filed r) s a
filed_turn (T.moved s a) = T.moved s a
filed_turn T.done = T.done
filed_turn (T.halted n p) = T.halted n p

-- what the step does in the innermost block f
abbrev pub applied_in : ℕ → Frame ℕ → List (Frame ℕ) → T.Turn ℕ Mark Record → T.Step ℕ Mark Entry → T.Turn ℕ Mark Record
applied_in v f fs outer (T.gives m e a) = T.emit e.rec (shift m e.rec.kind e.rec.at e.label e.rec.x v f fs) a
applied_in v f fs outer (T.ends a) = leave v fs a
applied_in v f fs outer (T.goes b a) = T.moved (state v (become b f ∷ fs)) a
applied_in v f fs outer T.backs = outer
applied_in v f fs outer (T.halts n p) = T.halted n p

-- the turn in the blocks fs, of the version v, with the token t held
abbrev pub turn_in : List ℕ → ℕ → List (Frame ℕ) → Token → T.Turn ℕ Mark Record
turn_in s v fs t = filed_turn (T.turn body v fs (ahead_of s t))
