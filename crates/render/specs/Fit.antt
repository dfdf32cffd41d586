-- WHICH LISTS OF RECORDS SOME TEXT HAS: a test.
use Rattle.std.specs.Prelude.{ℕ, suc, ◌≡◌, Bool, true, false, cond, not, ◌&&◌, ◌||◌, List, [], ◌∷◌, leb, eqb}
use Prim.Native.String.{String}
use Rattle.word.specs.Words as Words
use Rattle.grammar.specs.Grammar.{Act, statement, close, refuse, back, up_to54, Body, keyed, worded, options, parts, counted}
use Rattle.grammar.specs.Table.{body}
use Rattle.grammar.specs.Engine.{Maybe, none, some, Frame, empty}
use Rattle.grammar.specs.Turns.{State, act_for}
use Rattle.grammar.specs.Reading.{start}
use Rattle.render.specs.Plain.{Plain}
use Rattle.render.specs.Says.{holds_all, gives_all}
use Rattle.render.specs.Forms.{Form, Close, close_of, nobody}
use Rattle.render.specs.Lines.{owns, form_in, settled, taking, after}

-- A RECORD IN ITS FORM

-- nothing but its kind, its place and its owner
abbrev pub emptied : Plain → Plain
emptied r = record { kind = r.kind; code = 0; at = r.at; owner = r.owner; name = []; x = 0; y = 0 }

-- the same code, name and numbers
abbrev pub alike : Plain → Plain → Bool
alike r q = eqb r.code q.code && (Words.same r.name q.name && (eqb r.x q.x && eqb r.y q.y))

-- each item gets what it asks, and the record has nothing that no item gives it
unfoldable pub suits : Frame ℕ → Form → Plain → Bool
suits f m r = holds_all 0 f.label f.lacks m.items r && alike (gives_all 0 m.items r (emptied r)) r

-- a block of so many records has no more of them
abbrev pub has_room : Frame ℕ → Body → Bool
has_room f (keyed n rows) = true
has_room f (worded rows) = true
has_room f (options rows b) = true
has_room f (parts k is) = true
has_room f (counted k is) = not (empty f.lacks)

-- the block may have the record while the version is v
abbrev pub takes : ℕ → Frame ℕ → Plain → Maybe Form → Bool
takes v f r none = false
takes v f r (some m) = (not m.old || leb v 5400000) && (has_room f (body f.block) && suits f m r)

-- BLOCKS

abbrev pub is_back : Act → Bool
is_back (statement k is m) = false
is_back (close is) = false
is_back (refuse n) = false
is_back back = true
is_back (up_to54 a) = false

-- a block of statements may end where the word w comes next: by its own last words, or before a word that is another block's
abbrev pub closes : Frame ℕ → Maybe Close → Act → Bool
closes f none a = is_back a
closes f (some c) a = holds_all 0 f.label f.lacks c.items nobody

abbrev pub ends_before : ℕ → Frame ℕ → Body → Bool
ends_before w f (keyed n rows) = closes f (close_of rows) (act_for n w rows)
ends_before w f (worded rows) = closes f (close_of rows) (refuse 0)
ends_before w f (options rows b) = false
ends_before w f (parts k is) = empty f.lacks
ends_before w f (counted k is) = empty f.lacks

abbrev pub may_end : Frame ℕ → ℕ → Bool
may_end f w = ends_before w (settled f) (body (settled f).block)

-- the word that a block ends with, and the word that begins a form; 0 where there is none
abbrev pub close_word : Maybe Close → ℕ
close_word none = 0
close_word (some c) = Words.word c.word

abbrev pub last_word : Body → ℕ
last_word (keyed n rows) = close_word (close_of rows)
last_word (worded rows) = close_word (close_of rows)
last_word (options rows b) = 0
last_word (parts k is) = 0
last_word (counted k is) = 0

abbrev pub first_word : List String → ℕ
first_word [] = 0
first_word (w ∷ ws) = Words.word w

abbrev pub begin_word : Maybe Form → ℕ
begin_word none = 0
begin_word (some m) = first_word m.begin

-- the word that comes next where the record comes and these blocks are open, and where nothing more comes
abbrev pub comes : List (Frame ℕ) → Plain → ℕ
comes [] r = 0
comes (f ∷ fs) r = cond (owns f r) (begin_word (form_in (taking f r) r)) (last_word (body f.block))

abbrev pub ends : List (Frame ℕ) → ℕ
ends [] = 0
ends (f ∷ fs) = last_word (body f.block)

-- LISTS

-- the record may come where these blocks are open
unfoldable pub admits : ℕ → List (Frame ℕ) → Plain → Bool
admits v [] r = false
admits v (f ∷ fs) r = cond (owns f r) (takes v (taking f r) r (form_in (taking f r) r)) (may_end f (comes fs r) && admits v fs r)

-- all blocks may end
unfoldable pub all_end : List (Frame ℕ) → Bool
all_end [] = true
all_end (f ∷ fs) = may_end f (ends fs) && all_end fs

-- the records may come from the state on
unfoldable pub fit_from : State ℕ → List Plain → Bool
fit_from s [] = all_end s.blocks
fit_from s (r ∷ rs) = admits s.version s.blocks r && fit_from (after s.version s.blocks r) rs

-- `at` is the index
unfoldable pub indexed : ℕ → List Plain → Bool
indexed n [] = true
indexed n (r ∷ rs) = eqb r.at n && indexed (suc n) rs

unfoldable pub is_fit : List Plain → Bool
is_fit rs = indexed 0 rs && fit_from start rs

abbrev pub Fit : List Plain → Type 0
Fit rs = is_fit rs ≡ true
