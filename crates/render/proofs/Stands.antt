-- The words of the proofs on writing: what stands ahead, what was read, and how a step of the reader meets what is written.
use Prim.Native.Nat.{ℕ}
use mathlib.Core.Path.{◌≡◌}
use mathlib.Core.Bool.{Bool, true, false, not, ◌&&◌, ◌||◌}
use mathlib.Core.List.{List, [], ◌∷◌, ◌++◌, map}
use lib.Dec.{eqb}
use Rattle.lexer.specs.Kinds as Kind
use Rattle.word.specs.Words.{word_of, is_key}
use Rattle.grammar.specs.Tokens.{Tok, Ahead, bad}
use Rattle.grammar.specs.Grammar.{Item, key, keyword, name, own, x, y, semi, value, first, first_key, second, string, code, if_more, no_name, among, whole, Block, Move, Row, Body, keyed, worded, options, parts, counted}
use Rattle.grammar.specs.Table.{body}
use Rattle.grammar.specs.Engine.{Maybe, none, some, Rec, Frame}
use Rattle.grammar.specs.Standing.{Every}
use Rattle.grammar.specs.Turns.{gives, ends, goes, backs, step, label_of}
use Rattle.grammar.specs.Reading.{Mark}
use Rattle.grammar.proofs.Kept.{all}
use Rattle.render.specs.Pieces.{Said}
use Rattle.render.specs.Stripped.{stripped}
use Rattle.render.specs.Plain.{Plain}
use Rattle.render.specs.Says.{semicolon}
use Rattle.render.specs.Forms.{Form, Close, said_in, close_of, last_words}
use Rattle.render.specs.Lines.{on_line, form_in}
use Rattle.render.specs.Fit.{takes, ends_before, last_word, begin_word}
use Rattle.render.proofs.TokensSpelt.{NameSpelt, StringSpelt}

-- WHAT STANDS AHEAD

abbrev pub standing : {A M : Type 0} → Ahead A M → List Said
standing a = map stripped (all a)

-- tokens of a text: what they say can be written again
abbrev pub Good : {A M : Type 0} → Tok A M → Type 0
Good t = NameSpelt t × StringSpelt t

-- WHAT WAS READ

-- a record that was read, with its places
abbrev pub plain_rec : Rec ℕ → Plain
plain_rec q = record { kind = q.kind; code = q.code; at = q.at; owner = q.owner; name = label_of q.name; x = q.x; y = q.y }

-- it says what the record r says
pub record Like (q : Rec ℕ) (r : Plain) : Type 0 where
  pub kind : q.kind ≡ r.kind
  pub code : q.code ≡ r.code
  pub name : label_of q.name ≡ r.name
  pub x : q.x ≡ r.x
  pub y : q.y ≡ r.y

-- WHAT COMES NEXT

-- the last item forbids a name after it
unfoldable pub ends_no_name : List Item → Bool
ends_no_name [] = false
ends_no_name (key w ∷ is) = ends_no_name is
ends_no_name (keyword w ∷ is) = ends_no_name is
ends_no_name (name ∷ is) = ends_no_name is
ends_no_name (own ∷ is) = ends_no_name is
ends_no_name (x ∷ is) = ends_no_name is
ends_no_name (y ∷ is) = ends_no_name is
ends_no_name (semi ∷ is) = ends_no_name is
ends_no_name (value ∷ is) = ends_no_name is
ends_no_name (first ∷ is) = ends_no_name is
ends_no_name (first_key ∷ is) = ends_no_name is
ends_no_name (second ∷ is) = ends_no_name is
ends_no_name (string n ∷ is) = ends_no_name is
ends_no_name (code c ∷ is) = ends_no_name is
ends_no_name (if_more n ∷ is) = ends_no_name is
ends_no_name (no_name ∷ []) = true
ends_no_name (no_name ∷ i ∷ is) = ends_no_name (i ∷ is)
ends_no_name (among vs ∷ is) = ends_no_name is
ends_no_name (whole n ∷ is) = ends_no_name is

-- something follows that starts a token or ends the text, and no name where the items forbid one
abbrev pub follows : List Item → List Said → Bool
follows is [] = false
follows is (u ∷ us) = not (eqb u.kind bad) && (not (ends_no_name is) || not (eqb u.kind Kind.name))

-- HOW A BLOCK ENDS

-- by its own last words, or by a `;`
abbrev pub is_some : Maybe Close → Bool
is_some none = false
is_some (some c) = true

abbrev pub has_last : Body → Bool
has_last (keyed n rows) = is_some (close_of rows)
has_last (worded rows) = is_some (close_of rows)
has_last (options rows b) = false
has_last (parts k is) = true
has_last (counted k is) = true

abbrev pub last_of : List ℕ → Body → List Said
last_of label (keyed n rows) = last_words label (close_of rows)
last_of label (worded rows) = last_words label (close_of rows)
last_of label (options rows b) = []
last_of label (parts k is) = semicolon ∷ []
last_of label (counted k is) = semicolon ∷ []

-- WHAT IS WRITTEN IS READ

-- a statement, as its record
abbrev pub StatementBack : Type 0
StatementBack =
    (v : ℕ) (f : Frame ℕ) (m : Form) (r : Plain) (a : Ahead ℕ Mark) (us : List Said)
    → form_in f r ≡ some m → takes v f r (some m) ≡ true → standing a ≡ said_in f.label m r ++ us → follows m.items us ≡ true
    → (q : Rec ℕ) × (b : Ahead ℕ Mark) × (step v f a (body f.block) ≡ gives m.move q b) × Like q r × (q.at ≡ a.held.at) × (q.owner ≡ f.at) × (standing b ≡ us)

-- the last words of a block, as its end
abbrev pub LastBack : Type 0
LastBack =
    (v w : ℕ) (f : Frame ℕ) (a : Ahead ℕ Mark) (us : List Said)
    → has_last (body f.block) ≡ true → ends_before w f (body f.block) ≡ true → standing a ≡ last_of f.label (body f.block) ++ us → follows [] us ≡ true
    → (b : Ahead ℕ Mark) × (step v f a (body f.block) ≡ ends b) × (standing b ≡ us)

-- a `;` after options, as their end
abbrev pub OptionsBack : Type 0
OptionsBack =
    (v : ℕ) (f : Frame ℕ) (rows : List Row) (c : Block) (a : Ahead ℕ Mark) (us : List Said)
    → body f.block ≡ options rows c → standing a ≡ semicolon ∷ us → follows [] us ≡ true
    → (b : Ahead ℕ Mark) × (step v f a (body f.block) ≡ goes c b) × (standing b ≡ us)

-- a word of the block around, as the end of a block that has no last words
abbrev pub BeforeBack : Type 0
BeforeBack =
    (v : ℕ) (f : Frame ℕ) (a : Ahead ℕ Mark)
    → has_last (body f.block) ≡ false → a.held.kind ≡ Kind.name → is_key (word_of a.held.bytes) ≡ true
    → ends_before (word_of a.held.bytes) f (body f.block) ≡ true → step v f a (body f.block) ≡ backs

-- WHAT IS READ CAN BE WRITTEN

abbrev pub StatementRead : Type 0
StatementRead =
    (v : ℕ) (f : Frame ℕ) (a : Ahead ℕ Mark) (mv : Move) (q : Rec ℕ) (b : Ahead ℕ Mark)
    → step v f a (body f.block) ≡ gives mv q b → Every Good (all a)
    → (m : Form) × (form_in f (plain_rec q) ≡ some m) × (m.move ≡ mv) × (takes v f (plain_rec q) (some m) ≡ true)
    × (on_line (body f.block) ≡ false → begin_word (some m) ≡ word_of a.held.bytes)

abbrev pub LastRead : Type 0
LastRead =
    (v : ℕ) (f : Frame ℕ) (a b : Ahead ℕ Mark)
    → step v f a (body f.block) ≡ ends b → Every Good (all a)
    → (has_last (body f.block) ≡ true) × ((w : ℕ) → ends_before w f (body f.block) ≡ true)
    × (on_line (body f.block) ≡ false → last_word (body f.block) ≡ word_of a.held.bytes)

abbrev pub OptionsRead : Type 0
OptionsRead =
    (v : ℕ) (f : Frame ℕ) (a b : Ahead ℕ Mark) (c : Block) → step v f a (body f.block) ≡ goes c b → (rows : List Row) × (body f.block ≡ options rows c)

abbrev pub BeforeRead : Type 0
BeforeRead =
    (v : ℕ) (f : Frame ℕ) (a : Ahead ℕ Mark)
    → step v f a (body f.block) ≡ backs
    → (has_last (body f.block) ≡ false) × (on_line (body f.block) ≡ false) × (ends_before (word_of a.held.bytes) f (body f.block) ≡ true)
