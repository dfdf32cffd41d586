-- Inner machinery, which nobody has to believe: what the code's steps stand for in the definition.
-- The image `as_step` forgets nothing of an answer but how a number says what a record does to the open blocks.
use Rattle.std.specs.Prelude.{ℕ, ◌%◌, ◌-◌, ◌≤◌, ◌≡◌, cond, List, [], eqb, Result, Ok, Err}
use Rattle.refusal.specs.declared.Refusal.{Refusal}
use Rattle.lexer.specs.declared.Token.{Token}
use Rattle.parser.specs.declared.open.Frame.{Frame}
use Rattle.parser.specs.declared.step.Chosen.{Chosen}
use Rattle.parser.specs.declared.step.Chosen.TheVariants as C
use Rattle.parser.specs.declared.engine.Step.{Step}
use Rattle.parser.specs.declared.engine.Step.TheVariants as S
use Rattle.word.specs.Words.{word_of}
use Rattle.grammar.specs.Tokens.{Tok, Ahead, Answer, ok, refused}
use Rattle.grammar.specs.Grammar.{Act, statement, close, refuse, back, up_to54, Move, stay, enter, named, version, Body}
use Rattle.grammar.specs.Engine.{Rec, Frame as Open, blank, items}
use Rattle.grammar.specs.Turns as T
use Rattle.grammar.specs.Turns.{label_of, given, ended, perform}
use Rattle.grammar.specs.Reading.{Mark, filed}
use Rattle.rows.specs.Packed.{block_of, move_of, act_of, look_up}
use Rattle.parser.specs.Code.{ahead_of}
use Rattle.parser.specs.Kept.{name_in, frame_of}
use Rattle.parser.specs.Drafts.{Entry, entry}

-- only a named block has a label
abbrev pub labelled : Move → List ℕ → List ℕ
labelled stay l = []
labelled (enter b ks) l = []
labelled (named b ks) l = l
labelled version l = []

abbrev pub filed_step : T.Step ℕ Mark (Rec ℕ) → T.Step ℕ Mark Entry
filed_step (T.gives m r a) = T.gives m (entry (filed r) (labelled m (label_of r.name))) a
filed_step (T.ends a) = T.ends a
filed_step (T.goes b a) = T.goes b a
filed_step T.backs = T.backs
filed_step (T.halts n p) = T.halts n p

-- the code's steps
abbrev pub as_step : List ℕ → Result Step Refusal → T.Step ℕ Mark Entry
as_step s (Ok (S.Gives t r m)) = T.gives (move_of m) (entry r (labelled (move_of m) (name_in s r.name r.len))) (ahead_of s t)
as_step s (Ok (S.Ends t)) = T.ends (ahead_of s t)
as_step s (Ok (S.Goes t b)) = T.goes (block_of b) (ahead_of s t)
as_step s (Ok S.Back) = T.backs
as_step s (Err r) = T.halts r.number (record { place = r.place; line = r.line })

-- a step in the block f, of the version v, with the token t held
abbrev pub step_in : List ℕ → ℕ → Open ℕ → Token → Body → T.Step ℕ Mark Entry
step_in s v f t b = filed_step (T.step v f (ahead_of s t) b)

-- CHOOSING A ROW

-- an act whose word, held where a is ahead, has been taken: b is then ahead
abbrev pub runs : Open ℕ → Ahead ℕ Mark → Ahead ℕ Mark → Act → T.Step ℕ Mark (Rec ℕ)
runs f a b (statement k is m) = given m (items 0 f is (blank k f a) b)
runs f a b (close is) = ended (items 0 f is (blank 0 f a) b)
runs f a b (refuse n) = T.backs
runs f a b back = T.backs
runs f a b (up_to54 act) = T.backs

abbrev pub as_chosen : List ℕ → Frame → Token → Result Chosen Refusal → T.Step ℕ Mark (Rec ℕ)
as_chosen s f t (Ok (C.Runs row u)) = runs (frame_of s f) (ahead_of s t) (ahead_of s u) (act_of row.head row.items)
as_chosen s f t (Ok (C.Goes u b)) = T.goes (block_of b) (ahead_of s u)
as_chosen s f t (Ok C.Back) = T.backs
as_chosen s f t (Err r) = T.halts r.number (record { place = r.place; line = r.line })

-- a row whose items follow gives a record or ends the block
abbrev pub runs_low : Result Chosen Refusal → Type 0
runs_low (Ok (C.Runs row u)) = row.head % 256 ≤ 64
runs_low (Ok (C.Goes u b)) = Unit {0}
runs_low (Ok C.Back) = Unit {0}
runs_low (Err r) = Unit {0}

-- the word was taken, and is then looked at
abbrev pub worded_by : ℕ → Open ℕ → Ahead ℕ Mark → Body → Answer ℕ Mark (Tok ℕ Mark) → T.Step ℕ Mark (Rec ℕ)
worded_by v f a b (ok t c) = perform v f a (ok t c) c.held.mark (look_up b (word_of t.bytes))
worded_by v f a b (refused n p) = T.halts n p

-- an act that takes nothing, and the mark of its complaint
abbrev pub stopped_as : ℕ → Mark → T.Step ℕ Mark (Rec ℕ)
stopped_as act p = cond (eqb act 66) T.backs (T.halts (act - 80) p)

-- the two acts do the same at the version
abbrev pub SameAct : ℕ → Act → Act → Type 0
SameAct v c d = (f : Open ℕ) (a : Ahead ℕ Mark) (taken : Answer ℕ Mark (Tok ℕ Mark)) (p : Mark) → perform v f a taken p c ≡ perform v f a taken p d
