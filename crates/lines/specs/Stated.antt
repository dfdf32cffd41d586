-- Inner machinery, which nobody has to believe: what a record says in a block.
use Rattle.std.specs.Prelude.{ℕ, Bool, cond, List}
use Rattle.record.specs.declared.Record.{Record}
use Rattle.grammar.specs.Engine.{Frame}
use Rattle.render.specs.Pieces.{text}
use Rattle.render.specs.Plain.{bare}
use Rattle.render.specs.Forms.{begins}
use Rattle.render.specs.Lines.{spaced, indented, form_in, statement}
use Rattle.lines.specs.Formed.{begin_of}

-- the statement of a record of the text s in the block f, of which so many are around it
abbrev pub stated_in : List ℕ → ℕ → Frame ℕ → Record → List ℕ
stated_in s depth f r = text (statement depth f (bare s r) (form_in f (bare s r)))

-- the word that begins the statement: after a space on a line that goes on, else after two spaces per block
unfoldable pub started : Bool → ℕ → ℕ → List ℕ
started goes depth w = cond goes (text (spaced (begins (begin_of w)))) (text (indented depth (begins (begin_of w))))
