-- Every token of records that fit can be written: what their forms and the ends of their blocks say is asked of them, and the words
-- of the table pass a test.
use Prim.Native.Nat.{ℕ}
use mathlib.Core.Path.{◌≡◌, refl, subst}
use mathlib.Core.Bool.{Bool, true, false, cond, not, ◌&&◌, ◌||◌}
use mathlib.Core.List.{List, [], ◌∷◌, ◌++◌}
use lib.Dec.{leb}
use lib.ListN.{length}
use Rattle.text.specs.Text.{bytes}
use Rattle.lexer.specs.Kinds as Kind
use Rattle.word.specs.Words.{keys, values, words, raised, upper, same, first_where, word_of}
use Rattle.word.specs.Codes.{kind_values, values_in, values_of}
use Rattle.word.specs.Spelling.{spelling}
use Rattle.word.proofs.Words.{both}
use Rattle.grammar.specs.Grammar.{Block, Act, Body, keyed, worded, options, parts, counted}
use Rattle.grammar.specs.Table.{body}
use Rattle.grammar.specs.Engine.{Maybe, none, some, Frame}
use Rattle.grammar.specs.Turns.{State}
use Rattle.grammar.proofs.Blocks.{at_block}
use Rattle.render.specs.Pieces.{said, Piece, tokens}
use Rattle.render.specs.Spelt.{all, is_name, is_token, is_spelt, all_spelt}
use Rattle.render.specs.Plain.{Plain}
use Rattle.render.specs.Says.{holds_all, gives_all}
use Rattle.render.specs.Forms.{Form, forms_of, row_forms, forms_in, is_of, begins, said_in, Close, close_of, nobody, last_words}
use Rattle.render.specs.Lines.{spaced, line_end, owns, form_in, settled, settling, closing, end_all, taking, before, statement, pieces, after, lines}
use Rattle.render.specs.Fit.{emptied, alike, suits, has_room, takes, closes, ends_before, may_end, comes, ends, admits, all_end, fit_from}
use Rattle.render.proofs.Forms.{Found, form_found, of_kind}
use Rattle.render.proofs.Stands.{last_of}
use Rattle.render.proofs.Appended.{tokens_append}
use Rattle.render.proofs.Codes.{each_value}
use Rattle.render.proofs.ItemsSpelt.{spelt_append, semicolon_says, all_sayable, sayable, asks_code, next_asks, well_worded, all_worded, items_say}
use Rattle.render.proofs.Settled.{by_settling, settled_keeps}
use Rattle.render.proofs.LineTokens.{tokens_ending, tokens_statement}

-- A TEST OF THE TABLE: the words of every form and of every end can be written

unfoldable worded_form : Form → Bool
worded_form m = all_spelt (begins m.begin) && all_worded m.kind m.items

unfoldable worded_close : Maybe Close → Bool
worded_close none = true
worded_close (some c) = is_spelt (said Kind.name (bytes c.word)) && all_worded 0 c.items

unfoldable worded_end : Body → Bool
worded_end (keyed n rows) = worded_close (close_of rows)
worded_end (worded rows) = worded_close (close_of rows)
worded_end (options rows b) = true
worded_end (parts k is) = true
worded_end (counted k is) = true

unfoldable worded_body : Body → Bool
worded_body b = all worded_form (forms_in b) && worded_end b

table : (b : Block) → worded_body (body b) ≡ true
unfolding worded_body worded_end worded_close worded_form all is_name is_token is_spelt all_spelt forms_in row_forms forms_of begins close_of all_worded well_worded next_asks asks_code all_sayable sayable each_value spelling keys values words raised upper same first_where word_of kind_values values_in values_of
table = at_block worded_body refl

forms_worded : (f : Frame ℕ) → all worded_form (forms_in (body f.block)) ≡ true
unfolding worded_body
forms_worded f = (both (all worded_form (forms_in (body f.block))) (worded_end (body f.block)) (table f.block)).0

end_worded : (f : Frame ℕ) → worded_end (body f.block) ≡ true
unfolding worded_body
end_worded f = (both (all worded_form (forms_in (body f.block))) (worded_end (body f.block)) (table f.block)).1

-- ---- lines
abbrev Spelt : List Piece → Type 0
Spelt ps = all_spelt (tokens ps) ≡ true

append : (ps qs : List Piece) → Spelt ps → Spelt qs → Spelt (ps ++ qs)
append ps qs e f = rw (tokens_append ps qs) (spelt_append (tokens ps) (tokens qs) e f)

nothing : Spelt []
unfolding tokens all_spelt
nothing = refl

end_line : Spelt line_end
unfolding tokens spaced all_spelt
end_line = rw semicolon_says

-- ---- blocks
settling_spelt : (b : Body) → Spelt (settling b)
settling_spelt = by_settling Spelt nothing end_line

last_spelt : (f : Frame ℕ) (c : Maybe Close) (a : Act) → worded_close c ≡ true → closes f c a ≡ true → all_spelt (last_words f.label c) ≡ true
unfolding worded_close last_words all_spelt
last_spelt f none a e h = refl
last_spelt f (some c) a e h =
    let (p, q) = both (is_spelt (said Kind.name (bytes c.word))) (all_worded 0 c.items) e in
    rw p (items_say f.label f.lacks nobody 0 c.items q h)

last_of_spelt : (w : ℕ) (f : Frame ℕ) (b : Body) → worded_end b ≡ true → ends_before w f b ≡ true → all_spelt (last_of f.label b) ≡ true
unfolding worded_end all_spelt
last_of_spelt w f (keyed n rows) e h = last_spelt f (close_of rows) _ e h
last_of_spelt w f (worded rows) e h = last_spelt f (close_of rows) _ e h
last_of_spelt w f (options rows b) e h = refl
last_of_spelt w f (parts k is) e h = rw semicolon_says
last_of_spelt w f (counted k is) e h = rw semicolon_says

closing_spelt : (f : Frame ℕ) (fs : List (Frame ℕ)) (w : ℕ) → may_end f w ≡ true → Spelt (closing f fs)
closing_spelt f fs w h =
    let b = body (settled f).block in
    append (settling (body f.block)) _ (settling_spelt (body f.block))
    (rw tokens_ending (subst (λ l. all_spelt (last_of l b) ≡ true) (settled_keeps f).0 (last_of_spelt w (settled f) b (end_worded (settled f)) h)))

all_end_spelt : (fs : List (Frame ℕ)) → all_end fs ≡ true → Spelt (end_all fs)
unfolding all_end end_all
all_end_spelt [] h = nothing
all_end_spelt (f ∷ fs) h =
    let (p, q) = both (may_end f (ends fs)) (all_end fs) h in
    append (closing f fs) (end_all fs) (closing_spelt f fs (ends fs) p) (all_end_spelt fs q)

-- ---- records
form_spelt : (v : ℕ) (f : Frame ℕ) (r : Plain) (m : Form) → worded_form m ≡ true → is_of r m ≡ true → takes v f r (some m) ≡ true
    → all_spelt (said_in f.label m r) ≡ true
unfolding worded_form suits said_in
form_spelt v f r m e z h =
    let (p, q) = both (all_spelt (begins m.begin)) (all_worded m.kind m.items) e in
    let k : m.kind ≡ r.kind = of_kind r m z in
    let t = (both (not m.old || leb v 5400000) (has_room f (body f.block) && suits f m r) h).1 in
    let u = (both (has_room f (body f.block)) (suits f m r) t).1 in
    let i = (both (holds_all 0 f.label f.lacks m.items r) (alike (gives_all 0 m.items r (emptied r)) r) u).0 in
    spelt_append (begins m.begin) _ p (items_say f.label f.lacks r 0 m.items (rw k at q) i)

statement_spelt : (depth v : ℕ) (f : Frame ℕ) (r : Plain) (o : Maybe Form) → Found worded_form r o → takes v f r o ≡ true → Spelt (statement depth f r o)
statement_spelt depth v f r none z h = nothing
statement_spelt depth v f r (some m) z h = rw (tokens_statement depth f r m) (form_spelt v f r m z.0 z.1 h)

before_spelt : (f : Frame ℕ) (o : Maybe Form) → Spelt (before f o)
before_spelt f none = settling_spelt (body f.block)
before_spelt f (some m) = nothing

pieces_spelt : (v : ℕ) (fs : List (Frame ℕ)) (r : Plain) → admits v fs r ≡ true → Spelt (pieces fs r)
unfolding admits pieces
pieces_spelt v [] r h = nothing
pieces_spelt v (f ∷ fs) r h = go (owns f r) h (pieces_spelt v fs r)
  where
    g : Frame ℕ
    g = taking f r

    go : (mine : Bool) → cond mine (takes v g r (form_in g r)) (may_end f (comes fs r) && admits v fs r) ≡ true → (admits v fs r ≡ true → Spelt (pieces fs r))
        → Spelt (cond mine (before f (form_in f r) ++ statement (length fs) g r (form_in g r)) (closing f fs ++ pieces fs r))
    go true h ih =
        append (before f (form_in f r)) _ (before_spelt f (form_in f r))
        (statement_spelt (length fs) v g r (form_in g r) (form_found worded_form r (forms_in (body g.block)) (forms_worded g)) h)
    go false h ih =
        let (p, q) = both (may_end f (comes fs r)) (admits v fs r) h in
        append (closing f fs) _ (closing_spelt f fs (comes fs r) p) (ih q)

-- EVERY TOKEN OF RECORDS THAT FIT CAN BE WRITTEN
pub lines_spelt : (s : State ℕ) (ps : List Plain) → fit_from s ps ≡ true → all_spelt (tokens (lines s ps)) ≡ true
unfolding fit_from lines
lines_spelt s [] h = all_end_spelt s.blocks h
lines_spelt s (r ∷ rs) h =
    let v = s.version in
    let (p, q) = both (admits v s.blocks r) (fit_from (after v s.blocks r) rs) h in
    append (pieces s.blocks r) _ (pieces_spelt v s.blocks r p) (lines_spelt (after v s.blocks r) rs q)
