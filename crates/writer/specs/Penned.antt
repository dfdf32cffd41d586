-- Inner machinery, which nobody has to believe: what has been written, of records from open blocks on all but the ends of those that are
-- open after them. Here s is the text, and `outer` the array of the blocks around the innermost.
use Rattle.std.specs.Prelude.{ℕ, ◌/◌, ◌≡◌, Bool, true, ◌&&◌, List, [], ◌∷◌, ◌++◌, map, Option, Some, None}
use Rattle.record.specs.declared.Record.{Record}
use Rattle.grammar.specs.Grammar.{Move, stay}
use Rattle.grammar.specs.Engine.{Frame}
use Rattle.grammar.specs.Turns as T
use Rattle.grammar.specs.Reading.{records}
use Rattle.rows.specs.Packed.{move_of}
use Rattle.parser.specs.declared.open.Frame.{Frame as Around}
use Rattle.parser.specs.Kept.{name_in, frame_of}
use Rattle.reader.specs.declared.open.Open.{Open}
use Rattle.reader.specs.declared.open.State.{State}
use Rattle.reader.specs.Open.{frames_in, blocks_of, state_of, Inside, Ranked}
use Rattle.reader.specs.Passed.{Sound, read_from}
use Rattle.checker.specs.Passing.{Fit}
use Rattle.render.specs.Pieces.{Piece, text}
use Rattle.render.specs.Plain.{Plain, bare}
use Rattle.render.specs.Lines.{owns, form_in, taking, before, pieces, after}
use Rattle.render.specs.Fit.{takes, admits, fit_from}
use Rattle.lines.specs.declared.form.Form.{Form as Found}
use Rattle.lines.specs.declared.page.Page.{Page}
use Rattle.lines.specs.Put.{Puts}
use Rattle.lines.specs.Formed.{as_formed}
use Rattle.writer.specs.declared.pen.Taken.{Taken}

-- of records from a state on: what is written, the state after them, and whether they may come
unfoldable pub pieces_of : T.State ℕ → List Plain → List Piece
pieces_of t [] = []
pieces_of t (r ∷ rs) = pieces t.blocks r ++ pieces_of (after t.version t.blocks r) rs

unfoldable pub after_all : T.State ℕ → List Plain → T.State ℕ
after_all t [] = t
after_all t (r ∷ rs) = after_all (after t.version t.blocks r) rs

unfoldable pub admits_all : T.State ℕ → List Plain → Bool
admits_all t [] = true
admits_all t (r ∷ rs) = admits t.version t.blocks r && admits_all (after t.version t.blocks r) rs

-- THE OPEN BLOCKS

-- the innermost first
abbrev pub frames_of : List ℕ → Open → List Around → List (Frame ℕ)
frames_of s o outer = (blocks_of s o outer).blocks

-- no block stands deeper than it can, and these records may come
abbrev pub May : List ℕ → Open → List Around → List Plain → Type 0
May s o outer rs = Ranked (frames_of s o outer) × (admits_all (blocks_of s o outer) rs ≡ true)

-- the page and the open blocks after these records
pub record Wrote (s : List ℕ) (t : T.State ℕ) (rs : List Plain) (p : Page) (o : Open) (outer : List Around) (q : Page) : Type 0 where
  pub put : Puts p q (text (pieces_of t rs))
  pub state : blocks_of s o outer ≡ after_all t rs
  pub ranked : Ranked (frames_of s o outer)

-- blocks have ended that do not have the record
pub record Ended (s : List ℕ) (o : Open) (outer : List Around) (r : Plain) (p : Page) (to : Open) (q : Page) : Type 0 where
  pub ends : List Piece
  pub put : Puts p q (text ends)
  pub version : to.version ≡ o.version
  pub rest : pieces (frames_of s o outer) r ≡ ends ++ pieces (frames_of s to outer) r
  pub state : after o.version (frames_of s o outer) r ≡ after o.version (frames_of s to outer) r
  pub admitted : admits o.version (frames_of s to outer) r ≡ true
  pub ranked : Ranked (frames_of s to outer)

-- and the innermost block has it
pub record Reached (s : List ℕ) (o : Open) (outer : List Around) (r : Plain) (p : Page) (to : Open) (q : Page) : Type 0 where
  pub ended : Ended s o outer r p to q
  pub owned : owns (frame_of s to.inner) r ≡ true

-- the block f may have the record while the version is v
abbrev pub Takes : ℕ → Frame ℕ → Plain → Type 0
Takes v f r = takes v (taking f r) r (form_in (taking f r) r) ≡ true

-- the innermost block as it takes the record, and the record's form there
pub record Settled (s : List ℕ) (o : Open) (r : Plain) (p : Page) (to : Taken) (q : Page) : Type 0 where
  pub put : Puts p q (text (before (frame_of s o.inner) (form_in (frame_of s o.inner) r)))
  pub blocks : (outer : List Around) → blocks_of s to.«open» outer ≡ T.state o.version (taking (frame_of s o.inner) r ∷ frames_in s o.depth outer)
  pub formed : form_in (taking (frame_of s o.inner) r) r ≡ as_formed r.kind to.form

-- what a record does to the open blocks in that form
abbrev pub move_in : Option Found → Move
move_in (Some f) = move_of (f.row.head / 256)
move_in None = stay

-- the open blocks after the record; where it has no form they do not matter
abbrev pub Enters : List ℕ → Open → List Around → Record → Option Found → Open → List Around → Type 0
Enters s o outer r (Some f) q exit =
    Inside (move_of (f.row.head / 256))
    → blocks_of s q exit ≡ T.shift (move_of (f.row.head / 256)) r.kind r.at (name_in s r.name r.len) r.x o.version (frame_of s o.inner) (frames_in s o.depth outer)
Enters s o outer r None q exit = Unit {0}

-- the text s reads from the state on, which is sound, as these records, which fit their bytes and may come
pub record Ready (s : List ℕ) (st : State) (rs : List Record) : Type 0 where
  pub sound : Sound s st
  pub gives : read_from s st ≡ records rs
  pub fit : Fit rs
  pub fits : fit_from (state_of s st) (map (bare s) rs) ≡ true
