-- The tokens of what is written, blanks aside: each is one that the lexer can give, by the cases of what is written.
use Prim.Native.Nat.{ℕ, zero, suc, ◌-◌}
use Prim.Native.String.{String}
use mathlib.Core.Path.{◌≡◌, refl, ap, ◌∙◌}
use mathlib.Core.Bool.{Bool, true, false, cond, not}
use mathlib.Core.List.{List, [], ◌∷◌, ◌++◌, append_assoc, append-nil}
use lib.Dec.{eqb}
use lib.ListN.{length}
use Rattle.word.specs.Spelling.{second_of}
use Rattle.word.proofs.Words.{both}
use Rattle.grammar.specs.Tokens.{bad}
use Rattle.grammar.specs.Grammar.{Item, key, keyword, name, own, x, y, semi, value, first, first_key, second, string, code, if_more, no_name, among, whole, Body, keyed, worded, options, parts, counted}
use Rattle.grammar.specs.Table.{body}
use Rattle.grammar.specs.Engine.{Maybe, none, some, Frame}
use Rattle.grammar.specs.Turns.{State}
use Rattle.render.specs.Pieces.{Said, Piece, newline, tokens}
use Rattle.render.specs.Spelt.{all}
use Rattle.render.specs.Plain.{Plain}
use Rattle.render.specs.Says.{word, says, omitted, says_all}
use Rattle.render.specs.Forms.{Form, Close, begins, said_in, close_of, nobody, last_words}
use Rattle.render.specs.Lines.{spaced, indented, on_line, owns, form_in, settling, settled, ending, closing, end_all, before, taking, goes_on, statement, pieces, after, lines}
use Rattle.render.proofs.All.{all_append}
use Rattle.render.proofs.Stands.{ends_no_name, follows, last_of}
use Rattle.render.proofs.Appended.{tokens_append, tokens_spaced, tokens_indented, tokens_line}
use Rattle.render.proofs.TakersBack.{starts}
use Rattle.render.proofs.Settled.{by_settling}

-- BLANKS ASIDE

-- the tokens of two parts, and then others
pub tokens_then : (ps qs : List Piece) (us : List Said) → tokens (ps ++ qs) ++ us ≡ tokens ps ++ (tokens qs ++ us)
tokens_then ps qs us = rw tokens_append (append_assoc (tokens ps) (tokens qs) us)

pub tokens_ending : (depth : ℕ) (f : Frame ℕ) (b : Body) → tokens (ending depth f b) ≡ last_of f.label b
unfolding tokens spaced
tokens_ending depth f (keyed n rows) = tokens_line depth (last_words f.label (close_of rows))
tokens_ending depth f (worded rows) = tokens_line depth (last_words f.label (close_of rows))
tokens_ending depth f (options rows b) = refl
tokens_ending depth f (parts k is) = refl
tokens_ending depth f (counted k is) = refl

pub tokens_closing : (f : Frame ℕ) (fs : List (Frame ℕ)) (us : List Said)
    → tokens (closing f fs) ++ us ≡ tokens (settling (body f.block)) ++ (last_of f.label (body (settled f).block) ++ us)
tokens_closing f fs us = tokens_then (settling (body f.block)) _ us
    ∙ ap (λ l. tokens (settling (body f.block)) ++ (l ++ us)) (tokens_ending (length fs - 1) f (body (settled f).block))

pub tokens_statement : (depth : ℕ) (f : Frame ℕ) (r : Plain) (m : Form) → tokens (statement depth f r (some m)) ≡ said_in f.label m r
unfolding tokens
tokens_statement depth f r m = go (on_line (body f.block)) (goes_on f m.move)
  where
    go : (c d : Bool) → tokens (cond c (spaced (said_in f.label m r)) (indented depth (said_in f.label m r)) ++ cond d [] (newline ∷ [])) ≡ said_in f.label m r
    go true true = tokens_append (spaced (said_in f.label m r)) [] ∙ append-nil _ ∙ tokens_spaced (said_in f.label m r)
    go true false = tokens_append (spaced (said_in f.label m r)) (newline ∷ []) ∙ append-nil _ ∙ tokens_spaced (said_in f.label m r)
    go false true = tokens_append (indented depth (said_in f.label m r)) [] ∙ append-nil _ ∙ tokens_indented depth (said_in f.label m r)
    go false false = tokens_append (indented depth (said_in f.label m r)) (newline ∷ []) ∙ append-nil _ ∙ tokens_indented depth (said_in f.label m r)

-- NO BYTE THAT STARTS NO TOKEN

abbrev lexable : Said → Bool
lexable t = not (eqb t.kind bad)

abbrev pub Lexable : List Said → Type 0
Lexable ts = all lexable ts ≡ true

says_lexable : (label : List ℕ) (r : Plain) (i : Item) → Lexable (says label r i)
unfolding says all
says_lexable label r (key w) = refl
says_lexable label r (keyword w) = refl
says_lexable label r name = refl
says_lexable label r own = refl
says_lexable label r x = refl
says_lexable label r y = refl
says_lexable label r semi = refl
says_lexable label r value = refl
says_lexable label r first = refl
says_lexable label r first_key = refl
says_lexable label r second = go (eqb (second_of r.kind r.code) 0)
  where
    go : (c : Bool) → Lexable (cond c [] (word (second_of r.kind r.code) ∷ []))
    go true = refl
    go false = refl
says_lexable label r (string n) = refl
says_lexable label r (code c) = refl
says_lexable label r (if_more n) = refl
says_lexable label r no_name = refl
says_lexable label r (among vs) = refl
says_lexable label r (whole n) = refl

says_all_lexable : (m : ℕ) (label : List ℕ) (is : List Item) (r : Plain) → Lexable (says_all m label is r)
unfolding says_all all
says_all_lexable m label [] r = refl
says_all_lexable (suc m) label (i ∷ is) r = says_all_lexable m label is r
says_all_lexable zero label (i ∷ is) r = all_append lexable (says label r i) _ (says_lexable label r i) (says_all_lexable (omitted r i is) label is r)

-- what is said starts a token, if what follows does
pub says_start : (label : List ℕ) (r : Plain) (us : List Said) → starts us ≡ true → (m : ℕ) (is : List Item) → starts (says_all m label is r ++ us) ≡ true
unfolding all
says_start label r us s m is = go (says_all m label is r) (says_all_lexable m label is r)
  where
    go : (ts : List Said) → Lexable ts → starts (ts ++ us) ≡ true
    go [] h = s
    go (t ∷ ts) h = (both (lexable t) (all lexable ts) h).0

begins_lexable : (ws : List String) → Lexable (begins ws)
unfolding begins all
begins_lexable [] = refl
begins_lexable (w ∷ ws) = begins_lexable ws

said_in_lexable : (label : List ℕ) (m : Form) (r : Plain) → Lexable (said_in label m r)
unfolding said_in
said_in_lexable label m r = all_append lexable (begins m.begin) _ (begins_lexable m.begin) (says_all_lexable 0 label m.items r)

last_words_lexable : (label : List ℕ) (c : Maybe Close) → Lexable (last_words label c)
unfolding last_words all
last_words_lexable label none = refl
last_words_lexable label (some c) = says_all_lexable 0 label c.items nobody

pub last_of_lexable : (label : List ℕ) (b : Body) → Lexable (last_of label b)
unfolding all
last_of_lexable label (keyed n rows) = last_words_lexable label (close_of rows)
last_of_lexable label (worded rows) = last_words_lexable label (close_of rows)
last_of_lexable label (options rows b) = refl
last_of_lexable label (parts k is) = refl
last_of_lexable label (counted k is) = refl

settling_lexable : (b : Body) → Lexable (tokens (settling b))
unfolding tokens spaced all
settling_lexable = by_settling (λ ps. Lexable (tokens ps)) refl refl

two_lexable : (ps qs : List Piece) → Lexable (tokens ps) → Lexable (tokens qs) → Lexable (tokens (ps ++ qs))
two_lexable ps qs h k = rw tokens_append (all_append lexable (tokens ps) (tokens qs) h k)

closing_lexable : (f : Frame ℕ) (fs : List (Frame ℕ)) → Lexable (tokens (closing f fs))
closing_lexable f fs = two_lexable (settling (body f.block)) _ (settling_lexable (body f.block)) (rw tokens_ending (last_of_lexable f.label (body (settled f).block)))

before_lexable : (f : Frame ℕ) (m : Maybe Form) → Lexable (tokens (before f m))
unfolding tokens all
before_lexable f none = settling_lexable (body f.block)
before_lexable f (some m) = refl

pub statement_lexable : (depth : ℕ) (f : Frame ℕ) (r : Plain) (m : Maybe Form) → Lexable (tokens (statement depth f r m))
unfolding tokens all
statement_lexable depth f r none = refl
statement_lexable depth f r (some m) = rw (tokens_statement depth f r m) (said_in_lexable f.label m r)

pub end_all_lexable : (fs : List (Frame ℕ)) → Lexable (tokens (end_all fs))
unfolding end_all tokens all
end_all_lexable [] = refl
end_all_lexable (f ∷ fs) = two_lexable (closing f fs) (end_all fs) (closing_lexable f fs) (end_all_lexable fs)

pub pieces_lexable : (fs : List (Frame ℕ)) (r : Plain) → Lexable (tokens (pieces fs r))
unfolding pieces tokens all
pieces_lexable [] r = refl
pieces_lexable (f ∷ fs) r = go (owns f r) (pieces_lexable fs r)
  where
    go : (c : Bool) → Lexable (tokens (pieces fs r))
        → Lexable (tokens (cond c (before f (form_in f r) ++ statement (length fs) (taking f r) r (form_in (taking f r) r)) (closing f fs ++ pieces fs r)))
    go true h = two_lexable (before f (form_in f r)) _ (before_lexable f (form_in f r)) (statement_lexable (length fs) (taking f r) r (form_in (taking f r) r))
    go false h = two_lexable (closing f fs) (pieces fs r) (closing_lexable f fs) h

pub lines_lexable : (s : State ℕ) (rs : List Plain) → Lexable (tokens (lines s rs))
unfolding lines
lines_lexable s [] = end_all_lexable s.blocks
lines_lexable s (r ∷ rs) = two_lexable (pieces s.blocks r) _ (pieces_lexable s.blocks r) (lines_lexable (after s.version s.blocks r) rs)

-- what may follow stays so with tokens before it
pub follows_more : (ts us : List Said) → Lexable ts → follows [] us ≡ true → follows [] (ts ++ us) ≡ true
unfolding all ends_no_name
follows_more [] us h k = k
follows_more (t ∷ ts) us h k = rw (both (lexable t) (all lexable ts) h).0
