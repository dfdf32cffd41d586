-- How a record is written in a block: the form that the grammar gives it there.
use Rattle.std.specs.Prelude.{ℕ, Bool, true, false, cond, ◌&&◌, List, [], ◌∷◌, ◌++◌, eqb}
use Prim.Native.String.{String}
use Rattle.text.specs.Text.{bytes}
use Rattle.lexer.specs.Kinds as Kind
use Rattle.grammar.specs.Grammar.{Item, key, keyword, name, own, x, y, semi, value, first, first_key, second, string, code, if_more, no_name, among, whole, Move, stay, Act, statement, close, refuse, back, up_to54, Row, Body, keyed, worded, options, parts, counted}
use Rattle.grammar.specs.Engine.{Maybe, none, some}
use Rattle.render.specs.Pieces.{Said, said}
use Rattle.render.specs.Plain.{Plain}
use Rattle.render.specs.Says.{says_all}

-- the kind of the record, the word that begins it if there is one, its items, what it does to the open blocks, and whether only a
-- version up to 5.4 has it
pub record Form : Type 0 where
  pub kind : ℕ
  pub begin : List String
  pub items : List Item
  pub move : Move
  pub old : Bool

abbrev pub form : ℕ → List String → List Item → Move → Bool → Form
form k ws is m o = record { kind = k; begin = ws; items = is; move = m; old = o }

-- the forms of a row
unfoldable pub forms_of : String → Bool → Act → List Form
forms_of w o (statement k is m) = form k (w ∷ []) is m o ∷ []
forms_of w o (close is) = []
forms_of w o (refuse n) = []
forms_of w o back = []
forms_of w o (up_to54 a) = forms_of w true a

unfoldable pub row_forms : List Row → List Form
row_forms [] = []
row_forms (w ∷ ws) = forms_of w.begin false w.act ++ row_forms ws

-- the forms of a block
unfoldable pub forms_in : Body → List Form
forms_in (keyed n rows) = row_forms rows
forms_in (worded rows) = row_forms rows
forms_in (options rows b) = row_forms rows
forms_in (parts k is) = form k [] is stay false ∷ []
forms_in (counted k is) = form k [] is stay false ∷ []

-- items that begin with a code are those of that code alone
unfoldable pub of_code : List Item → ℕ → Bool
of_code [] c = true
of_code (key w ∷ is) c = true
of_code (keyword w ∷ is) c = true
of_code (name ∷ is) c = true
of_code (own ∷ is) c = true
of_code (x ∷ is) c = true
of_code (y ∷ is) c = true
of_code (semi ∷ is) c = true
of_code (value ∷ is) c = true
of_code (first ∷ is) c = true
of_code (first_key ∷ is) c = true
of_code (second ∷ is) c = true
of_code (string n ∷ is) c = true
of_code (code b ∷ is) c = eqb b c
of_code (if_more n ∷ is) c = true
of_code (no_name ∷ is) c = true
of_code (among vs ∷ is) c = true
of_code (whole n ∷ is) c = true

unfoldable pub is_of : Plain → Form → Bool
is_of r f = eqb f.kind r.kind && of_code f.items r.code

-- the first form that is the record's
unfoldable pub form_for : Plain → List Form → Maybe Form
form_for r [] = none
form_for r (f ∷ fs) = cond (is_of r f) (some f) (form_for r fs)

unfoldable pub begins : List String → List Said
begins [] = []
begins (w ∷ ws) = said Kind.name (bytes w) ∷ begins ws

-- all tokens of the record in that form, in a block with the name `label`
unfoldable pub said_in : List ℕ → Form → Plain → List Said
said_in label f r = begins f.begin ++ says_all 0 label f.items r

-- HOW A BLOCK ENDS

-- the word and the items that end it
pub record Close : Type 0 where
  pub word : String
  pub items : List Item

unfoldable pub close_of : List Row → Maybe Close
close_of [] = none
close_of (w ∷ ws) = elim w.act [
  | statement k is m ↦ close_of ws
  | close is ↦ some (record { word = w.begin; items = is })
  | refuse n ↦ close_of ws
  | back ↦ close_of ws
  | up_to54 a ↦ close_of ws
]

-- what stands for the record where there is none
abbrev pub nobody : Plain
nobody = record { kind = 0; code = 0; at = 0; owner = none; name = []; x = 0; y = 0 }

unfoldable pub last_words : List ℕ → Maybe Close → List Said
last_words label none = []
last_words label (some c) = said Kind.name (bytes c.word) ∷ says_all 0 label c.items nobody
