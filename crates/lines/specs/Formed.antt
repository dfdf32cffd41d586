-- Inner machinery, which nobody has to believe: the form that the code finds for a record.
-- The image `as_formed` forgets nothing of an answer but how a number says the items and what the record does to the open blocks.
use Rattle.std.specs.Prelude.{ℕ, Option, Some, None, ◌/◌, ◌%◌, Bool, true, cond, ◌&&◌, List, [], ◌∷◌, ◌++◌, eqb, leb}
use Prim.Native.String.{String}
use Rattle.word.specs.Words.{keys, values}
use Rattle.word.specs.Spelling.{first_of}
use Rattle.grammar.specs.Grammar.{Act, statement, close, refuse, back, up_to54}
use Rattle.grammar.specs.Engine.{Maybe, none, some}
use Rattle.rows.specs.Packed.{nth, items_of, move_of, coded, word_of_kind}
use Rattle.render.specs.Forms.{Form, form, of_code}
use Rattle.lines.specs.declared.form.Form.{Form as Found}

-- the word with a number, and none with 0
unfoldable pub word_at : ℕ → String
word_at n = nth n ("" ∷ (keys ++ values))

-- what begins with the word with a number: nothing does with 0
unfoldable pub begin_of : ℕ → List String
begin_of w = cond (eqb w 0) [] (word_at w ∷ [])

abbrev pub as_formed : ℕ → Option Found → Maybe Form
as_formed k (Some f) = some (form k (begin_of f.word) (items_of f.row.items) (move_of (f.row.head / 256)) (leb 128 (f.row.head % 256)))
as_formed k None = none

-- the form of an act that the word with the number w begins, where it gives records of the kind k and the code c
unfoldable pub form_by : ℕ → ℕ → ℕ → Bool → Act → Maybe Form
form_by w k c o (statement j is m) = cond (eqb j k && of_code is c) (some (form j (begin_of w) is m o)) none
form_by w k c o (close is) = none
form_by w k c o (refuse n) = none
form_by w k c o back = none
form_by w k c o (up_to54 a) = form_by w k c true a

-- the word that begins a record of the kind and code, or 0
unfoldable pub word_for : ℕ → ℕ → ℕ
word_for k c = cond (coded k) (first_of k c) (word_of_kind k)
