-- THE WRITTEN TEXT: statements one a line, by the blocks that are open.
use Rattle.std.specs.Prelude.{ℕ, ◌-◌, ◌*◌, Bool, true, false, cond, List, [], ◌∷◌, ◌++◌, eqb, length}
use Rattle.grammar.specs.Grammar.{Move, stay, enter, named, version, Body, keyed, worded, options, parts, counted}
use Rattle.grammar.specs.Table.{body}
use Rattle.grammar.specs.Engine.{Maybe, none, some, Frame}
use Rattle.grammar.specs.Turns.{State, state, shift, become}
use Rattle.grammar.specs.Reading.{start}
use Rattle.render.specs.Pieces.{Said, Piece, spaces, newline, token, text}
use Rattle.render.specs.Plain.{Plain}
use Rattle.render.specs.Says.{semicolon}
use Rattle.render.specs.Forms.{Form, forms_in, form_for, said_in, close_of, last_words}

-- LINES

-- tokens that go on in a line: a space before each
unfoldable pub spaced : List Said → List Piece
spaced [] = []
spaced (t ∷ ts) = spaces 1 ∷ token t ∷ spaced ts

-- tokens that begin a line: two spaces per open block, one space between tokens
unfoldable pub indented : ℕ → List Said → List Piece
indented depth [] = []
indented depth (t ∷ ts) = spaces (2 * depth) ∷ token t ∷ spaced ts

-- a line by itself
unfoldable pub line : ℕ → List Said → List Piece
line depth [] = []
line depth (t ∷ ts) = indented depth (t ∷ ts) ++ (newline ∷ [])

-- the end of a line that a `;` ends
abbrev pub line_end : List Piece
line_end = spaced (semicolon ∷ []) ++ (newline ∷ [])

-- BLOCKS

-- the records of these blocks stand on the line of what opened them
unfoldable pub on_line : Body → Bool
on_line (keyed n rows) = false
on_line (worded rows) = false
on_line (options rows b) = true
on_line (parts k is) = true
on_line (counted k is) = true

abbrev pub same : Maybe ℕ → Maybe ℕ → Bool
same none none = true
same none (some q) = false
same (some p) none = false
same (some p) (some q) = eqb p q

-- the block has the record
abbrev pub owns : Frame ℕ → Plain → Bool
owns f r = same f.at r.owner

-- the form of the record in the block
abbrev pub form_in : Frame ℕ → Plain → Maybe Form
form_in f r = form_for r (forms_in (body f.block))

-- the block after its options
abbrev pub settled_by : Frame ℕ → Body → Frame ℕ
settled_by f (keyed n rows) = f
settled_by f (worded rows) = f
settled_by f (options rows b) = become b f
settled_by f (parts k is) = f
settled_by f (counted k is) = f

abbrev pub settled : Frame ℕ → Frame ℕ
settled f = settled_by f (body f.block)

-- the line of options ends
abbrev pub settling : Body → List Piece
settling (keyed n rows) = []
settling (worded rows) = []
settling (options rows b) = line_end
settling (parts k is) = []
settling (counted k is) = []

-- the end of a block whose opener has so many blocks around it
abbrev pub ending : ℕ → Frame ℕ → Body → List Piece
ending depth f (keyed n rows) = line depth (last_words f.label (close_of rows))
ending depth f (worded rows) = line depth (last_words f.label (close_of rows))
ending depth f (options rows b) = []
ending depth f (parts k is) = line_end
ending depth f (counted k is) = line_end

-- the block f ends, of which fs are around it: END under its opener, or the `;` of its line
abbrev pub closing : Frame ℕ → List (Frame ℕ) → List Piece
closing f fs = settling (body f.block) ++ ending (length fs - 1) f (body (settled f).block)

unfoldable pub end_all : List (Frame ℕ) → List Piece
end_all [] = []
end_all (f ∷ fs) = closing f fs ++ end_all fs

-- RECORDS

-- the block f as it takes the record: its options are over where the record is none
abbrev pub taken_by : Frame ℕ → Maybe Form → Frame ℕ
taken_by f none = settled f
taken_by f (some m) = f

abbrev pub taking : Frame ℕ → Plain → Frame ℕ
taking f r = taken_by f (form_in f r)

abbrev pub before : Frame ℕ → Maybe Form → List Piece
before f none = settling (body f.block)
before f (some m) = []

-- does the line go on after a statement in the block f?
abbrev pub goes_on : Frame ℕ → Move → Bool
goes_on f stay = on_line (body f.block)
goes_on f (enter b ks) = on_line (body b)
goes_on f (named b ks) = on_line (body b)
goes_on f version = on_line (body f.block)

-- a statement in the block f, of which so many are around it
abbrev pub statement : ℕ → Frame ℕ → Plain → Maybe Form → List Piece
statement depth f r none = []
statement depth f r (some m) =
    cond (on_line (body f.block)) (spaced (said_in f.label m r)) (indented depth (said_in f.label m r))
    ++ cond (goes_on f m.move) [] (newline ∷ [])

-- the state after it
abbrev pub entered : ℕ → Frame ℕ → List (Frame ℕ) → Plain → Maybe Form → State ℕ
entered v f fs r none = state v (f ∷ fs)
entered v f fs r (some m) = shift m.move r.kind r.at r.name r.x v f fs

-- what is written of the record where these blocks are open: those that do not have it end
unfoldable pub pieces : List (Frame ℕ) → Plain → List Piece
pieces [] r = []
pieces (f ∷ fs) r =
    cond (owns f r)
    (before f (form_in f r) ++ statement (length fs) (taking f r) r (form_in (taking f r) r))
    (closing f fs ++ pieces fs r)

unfoldable pub after : ℕ → List (Frame ℕ) → Plain → State ℕ
after v [] r = state v []
after v (f ∷ fs) r = cond (owns f r) (entered v (taking f r) fs r (form_in (taking f r) r)) (after v fs r)

-- what is written of records from a state on
unfoldable pub lines : State ℕ → List Plain → List Piece
lines s [] = end_all s.blocks
lines s (r ∷ rs) = pieces s.blocks r ++ lines (after s.version s.blocks r) rs

-- the text of records
unfoldable pub render : List Plain → List ℕ
render rs = text (lines start rs)
