-- A blank stands between each two tokens of what is written: while a line is open its innermost block is one that stands on the
-- line, and whatever comes next there begins with a blank.
use Prim.Native.Nat.{ℕ, ◌-◌}
use mathlib.Core.Path.{◌≡◌, refl}
use mathlib.Core.Bool.{Bool, true, false, cond, false≢true}
use mathlib.Core.List.{List, [], ◌∷◌, ◌++◌, append_assoc}
use lib.ListN.{length}
use Rattle.grammar.specs.Grammar.{Move, stay, enter, named, version, Body, keyed, worded, options, parts, counted}
use Rattle.grammar.specs.Table.{body}
use Rattle.grammar.specs.Engine.{Maybe, none, some, Frame}
use Rattle.grammar.specs.Turns.{State, shift}
use Rattle.render.specs.Pieces.{Said, Piece, newline, parted, apart}
use Rattle.render.specs.Plain.{Plain}
use Rattle.render.specs.Forms.{Form, said_in}
use Rattle.render.specs.Lines.{spaced, indented, line, line_end, on_line, owns, form_in, settled_by, settled, settling, ending, closing, end_all, taken_by, taking, before, goes_on, statement, entered, pieces, after, lines}

-- tokens stand apart, and a blank comes first where the line is open
abbrev Follows : Bool → List Piece → Type 0
Follows begun ps = (apart ps ≡ true) × (begun ≡ true → parted ps ≡ true)

closed : (ps : List Piece) → apart ps ≡ true → Follows false ps
closed ps e = (e, λ z. absurd (false≢true z))

-- ---- pieces
then_newline : (ps : List Piece) → apart ps ≡ true → Follows true (newline ∷ ps)
unfolding apart parted
then_newline ps e = (e, λ z. refl)

then_spaced : (ts : List Said) (ps : List Piece) → Follows true ps → Follows true (spaced ts ++ ps)
unfolding spaced apart parted
then_spaced [] ps h = h
then_spaced (t ∷ ts) ps h = let (a, p) = then_spaced ts ps h in (rw (p refl, a), λ z. refl)

then_indented : (depth : ℕ) (ts : List Said) (ps : List Piece) → Follows true ps → apart (indented depth ts ++ ps) ≡ true
unfolding indented apart
then_indented depth [] ps h = h.0
then_indented depth (t ∷ ts) ps h = let (a, p) = then_spaced ts ps h in rw (p refl, a)

then_line : (depth : ℕ) (ts : List Said) (ps : List Piece) → apart ps ≡ true → apart (line depth ts ++ ps) ≡ true
unfolding line
then_line depth [] ps e = e
then_line depth (t ∷ ts) ps e = rw append_assoc (then_indented depth (t ∷ ts) (newline ∷ ps) (then_newline ps e))

then_end : (ps : List Piece) → apart ps ≡ true → Follows true (line_end ++ ps)
then_end ps e = rw append_assoc (then_spaced _ (newline ∷ ps) (then_newline ps e))

-- ---- blocks
-- a line is open where the innermost block stands on it
abbrev open_at : List (Frame ℕ) → Bool
open_at [] = false
open_at (f ∷ fs) = on_line (body f.block)

then_ending : (depth : ℕ) (f : Frame ℕ) (b : Body) (ps : List Piece) → apart ps ≡ true → apart (ending depth f b ++ ps) ≡ true
then_ending depth f (keyed n rows) ps e = then_line depth _ ps e
then_ending depth f (worded rows) ps e = then_line depth _ ps e
then_ending depth f (options rows b) ps e = e
then_ending depth f (parts k is) ps e = (then_end ps e).0
then_ending depth f (counted k is) ps e = (then_end ps e).0

then_closing : (f : Frame ℕ) (fs : List (Frame ℕ)) (ps : List Piece) → apart ps ≡ true → Follows (on_line (body f.block)) (closing f fs ++ ps)
unfolding on_line
then_closing f fs ps e = rw append_assoc (go (body f.block) refl)
  where
    depth : ℕ
    depth = length fs - 1

    go : (b : Body) → body f.block ≡ b → Follows (on_line b) (settling b ++ (ending depth f (body (settled_by f b).block) ++ ps))
    go (keyed n rows) q = closed _ (then_ending depth f (body f.block) ps e)
    go (worded rows) q = closed _ (then_ending depth f (body f.block) ps e)
    go (options rows b) q = then_end _ (then_ending depth f (body b) ps e)
    go (parts k is) q = rw q (then_end ps e)
    go (counted k is) q = rw q (then_end ps e)

-- the line of options ends, or there is none
then_settled : (f : Frame ℕ) (ps : List Piece) → Follows (on_line (body (settled f).block)) ps → Follows (on_line (body f.block)) (settling (body f.block) ++ ps)
unfolding on_line
then_settled f ps = go (body f.block) refl
  where
    go : (b : Body) → body f.block ≡ b → Follows (on_line (body (settled_by f b).block)) ps → Follows (on_line b) (settling b ++ ps)
    go (keyed n rows) q h = closed ps h.0
    go (worded rows) q h = closed ps h.0
    go (options rows b) q h = then_end ps h.0
    go (parts k is) q h = rw q at h
    go (counted k is) q h = rw q at h

all_ended : (fs : List (Frame ℕ)) → Follows (open_at fs) (end_all fs)
unfolding end_all apart
all_ended [] = closed [] refl
all_ended (f ∷ fs) = then_closing f fs (end_all fs) (all_ended fs).0

-- ---- records
then_statement : (depth : ℕ) (f : Frame ℕ) (r : Plain) (m : Form) (ps : List Piece)
    → Follows (goes_on f m.move) ps → Follows (on_line (body f.block)) (statement depth f r (some m) ++ ps)
then_statement depth f r m ps h = rw append_assoc (begin (on_line (body f.block)) _ (end (goes_on f m.move) h))
  where
    ts : List Said
    ts = said_in f.label m r

    end : (goes : Bool) → Follows goes ps → Follows true (cond goes [] (newline ∷ []) ++ ps)
    end true h = h
    end false h = then_newline ps h.0

    begin : (begun : Bool) (qs : List Piece) → Follows true qs → Follows begun (cond begun (spaced ts) (indented depth ts) ++ qs)
    begin true qs h = then_spaced ts qs h
    begin false qs h = closed _ (then_indented depth ts qs h)

-- `rest` is what follows in each state
module _ (rest : State ℕ → List Piece) (follows : (s : State ℕ) → Follows (open_at s.blocks) (rest s)) (v : ℕ) (r : Plain) where
  then_shifted : (f : Frame ℕ) (fs : List (Frame ℕ)) (m : Form) → Follows (goes_on f m.move) (rest (entered v f fs r (some m)))
  then_shifted f fs m = go m.move
    where
      go : (mv : Move) → Follows (goes_on f mv) (rest (shift mv r.kind r.at r.name r.x v f fs))
      go stay = follows _
      go (enter b ks) = follows _
      go (named b ks) = follows _
      go version = follows _

  then_entered : (f : Frame ℕ) (fs : List (Frame ℕ)) (o : Maybe Form)
      → Follows (on_line (body f.block)) (statement (length fs) f r o ++ rest (entered v f fs r o))
  then_entered f fs none = follows _
  then_entered f fs (some m) = then_statement (length fs) f r m _ (then_shifted f fs m)

  then_taken : (f : Frame ℕ) (fs : List (Frame ℕ)) (o : Maybe Form)
      → Follows (on_line (body f.block)) (before f o ++ (statement (length fs) (taken_by f o) r (form_in (taken_by f o) r) ++ rest (entered v (taken_by f o) fs r (form_in (taken_by f o) r))))
  then_taken f fs none = then_settled f _ (then_entered (settled f) fs (form_in (settled f) r))
  then_taken f fs (some m) = then_entered f fs (form_in f r)

  then_record : (fs : List (Frame ℕ)) → Follows (open_at fs) (pieces fs r ++ rest (after v fs r))
  unfolding pieces after
  then_record [] = closed _ (follows _).0
  then_record (f ∷ fs) = go (owns f r) (then_record fs).0
    where
      go : (mine : Bool) → apart (pieces fs r ++ rest (after v fs r)) ≡ true
          → Follows (on_line (body f.block)) (
          cond mine (before f (form_in f r) ++ statement (length fs) (taking f r) r (form_in (taking f r) r)) (closing f fs ++ pieces fs r)
          ++ rest (cond mine (entered v (taking f r) fs r (form_in (taking f r) r)) (after v fs r)))
      go true e = rw append_assoc (then_taken f fs (form_in f r))
      go false e = rw (append_assoc (closing f fs)) (then_closing f fs _ e)

from_state : (s : State ℕ) (ps : List Plain) → Follows (open_at s.blocks) (lines s ps)
unfolding lines
from_state s [] = all_ended s.blocks
from_state s (r ∷ rs) = then_record (λ t. lines t rs) (λ t. from_state t rs) s.version r s.blocks

-- TOKENS STAND APART
pub lines_apart : (s : State ℕ) (ps : List Plain) → apart (lines s ps) ≡ true
lines_apart s ps = (from_state s ps).0
