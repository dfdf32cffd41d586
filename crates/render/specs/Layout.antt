-- HOW THE TEXT IS LAID OUT, said of the records and their owners alone: what a line is, which lines there are, and how deep each stands.
use Rattle.std.specs.Prelude.{ℕ, ◌*◌, ◌≡◌, Bool, true, false, cond, List, [], ◌∷◌, ◌++◌, length}
use Rattle.text.specs.Text.{bytes}
use Rattle.lexer.specs.Kinds as Kind
use Rattle.record.specs.Kinds.{UNITS, SITE, SYMMETRY_WORD, MACRO, PIN, PORT, OBS, LAYER_OPTION, POINT}
use Rattle.grammar.specs.Engine.{Maybe, none, some, Frame, member}
use Rattle.render.specs.Pieces.{Said, said, Piece, spaces, newline, token}
use Rattle.render.specs.Plain.{Plain}
use Rattle.render.specs.Says.{semicolon}
use Rattle.render.specs.Forms.{Form, said_in}
use Rattle.render.specs.Lines.{spaced, same, owns, form_in}

-- RECORDS

-- these stand on their owner's line
unfoldable pub on_owners_line : ℕ → Bool
on_owners_line k = member (SYMMETRY_WORD ∷ LAYER_OPTION ∷ POINT ∷ []) k

-- the blocks of these close with END
unfoldable pub closes_with_end : ℕ → Bool
closes_with_end k = member (UNITS ∷ SITE ∷ MACRO ∷ PIN ∷ PORT ∷ OBS ∷ []) k

-- the record whose `at` is o, its owner, the owner of that, and so on out to the library; the latest of the records qs is first
unfoldable pub chain : List Plain → Maybe ℕ → List Plain
chain [] o = []
chain (q ∷ qs) o = cond (same (some q.at) o) (q ∷ chain qs q.owner) (chain qs o)

-- how many owners the record has
abbrev pub depth : List Plain → Plain → ℕ
depth qs r = length (chain qs r.owner)

-- the `at` of the latest record
abbrev pub latest : List Plain → Maybe ℕ
latest [] = none
latest (q ∷ qs) = some q.at

-- LINES

-- the parts of a text in order, each line with how many blocks are open around it
pub data Part : Type 0 where
  begins : ℕ → Plain → Part  -- a line, begun by the statement of the record
  goes : Plain → Part  -- a record that goes on in the line before
  ends : ℕ → Plain → Part  -- a line, begun by the END of the record's block
  last : Part  -- a line, begun by END LIBRARY

-- the statement of a record and the END of its block, both as deep as the record has owners
abbrev pub part_of : List Plain → Plain → Part
part_of qs r = cond (on_owners_line r.kind) (goes r) (begins (depth qs r) r)

abbrev pub end_of : List Plain → Plain → List Part
end_of qs q = cond (closes_with_end q.kind) (ends (depth qs q) q ∷ []) []

-- the ENDs of a chain, from the innermost out, up to the record whose `at` is o, which does not end
unfoldable pub ends_up_to : List Plain → Maybe ℕ → List Plain → List Part
ends_up_to qs o [] = []
ends_up_to qs o (q ∷ c) = cond (same (some q.at) o) [] (end_of qs q ++ ends_up_to qs o c)

-- the parts of the records rs after the records qs: before each record end the blocks that are not around it
unfoldable pub layout : List Plain → List Plain → List Part
layout qs [] = ends_up_to qs none (chain qs (latest qs)) ++ (last ∷ [])
layout qs (r ∷ rs) = ends_up_to qs r.owner (chain qs (latest qs)) ++ (part_of qs r ∷ layout (r ∷ qs) rs)

-- WHAT IS WRITTEN

-- these are the tokens of the record, in its form in the block of its owner
pub record Words (r : Plain) (ts : List Said) : Type 0 where
  pub block : Frame ℕ
  pub form : Form
  pub owned : owns block r ≡ true
  pub formed : form_in block r ≡ some form
  pub words : ts ≡ said_in block.label form r

-- END is first; and END LIBRARY is all
abbrev pub EndWords : List Said → Type 0
EndWords ts = (more : List Said) × (ts ≡ said Kind.name (bytes "END") ∷ more)

abbrev pub LastWords : List Said → Type 0
LastWords ts = ts ≡ said Kind.name (bytes "END") ∷ said Kind.name (bytes "LIBRARY") ∷ []

-- a line that is open ends here, with byte 10 or with a `;` and byte 10
abbrev pub Ended : Bool → List Piece → (List Piece → Type 0) → Type 0
Ended false ps next = next ps
Ended true ps next = (semi : Bool) × (qs : List Piece) × (ps ≡ cond semi (spaced (semicolon ∷ [])) [] ++ (newline ∷ qs)) × next qs

-- a line: two spaces for each open block, a token, and the others after one space each
abbrev pub Begun : ℕ → (List Said → Type 0) → (List Piece → Type 0) → List Piece → Type 0
Begun d Said-by next ps = (t : Said) × (ts : List Said) × (qs : List Piece) × (ps ≡ spaces (2 * d) ∷ token t ∷ (spaced ts ++ qs)) × Said-by (t ∷ ts) × next qs

-- the part comes, where a line is open (true) or none is, and then what is next
abbrev pub Comes : Part → Bool → List Piece → (List Piece → Type 0) → Type 0
Comes (begins d r) going ps next = Ended going ps (Begun d (Words r) next)
Comes (goes r) false ps next = ⊥
Comes (goes r) true ps next = (ts : List Said) × (qs : List Piece) × (ps ≡ spaced ts ++ qs) × Words r ts × next qs
Comes (ends d q) going ps next = Ended going ps (Begun d EndWords next)
Comes last going ps next = Ended going ps (Begun 0 LastWords next)

-- the pieces are these parts and nothing more, where a line is open or none is
abbrev pub Laid : List Part → Bool → List Piece → Type 0
Laid [] going ps = Ended going ps (λ qs. qs ≡ [])
Laid (e ∷ es) going ps = Comes e going ps (λ qs. Laid es true qs)
