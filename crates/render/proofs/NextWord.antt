-- The word before which a block without last words ends stands first in what is written next: the table is tested for where such words are.
use Prim.Native.Nat.{ℕ}
use Prim.Native.String.{String}
use mathlib.Core.Path.{◌≡◌, refl, sym}
use mathlib.Core.Bool.{Bool, true, false, cond, not, ◌&&◌, ◌||◌, false≢true}
use mathlib.Core.List.{List, [], ◌∷◌, ◌++◌}
use borrow.Author.Tests.{eqb-true}
use lib.Dec.{eqb}
use lib.ListN.{length}
use Rattle.lexer.specs.Kinds as Kind
use Rattle.word.specs.Words.{keys, values, words, raised, upper, same, first_where, word_of, word, is_key}
use Rattle.grammar.specs.Grammar.{Block, Act, refuse, Row, Body, keyed, worded, options, parts, counted}
use Rattle.grammar.specs.Table.{body}
use Rattle.grammar.specs.Engine.{Maybe, none, some, Frame}
use Rattle.grammar.specs.Turns.{act_for}
use Rattle.grammar.proofs.Blocks.{at_block}
use Rattle.render.specs.Pieces.{Said, tokens}
use Rattle.render.specs.Spelt.{all}
use Rattle.render.specs.Plain.{Plain}
use Rattle.render.specs.Says.{says_all}
use Rattle.render.specs.Forms.{Form, Close, forms_of, row_forms, forms_in, begins, said_in, close_of, last_words}
use Rattle.render.specs.Lines.{owns, form_in, settled_by, settling, closing, end_all, taking, before, statement, pieces}
use Rattle.render.specs.Fit.{takes, is_back, closes, ends_before, may_end, close_word, last_word, first_word, begin_word, comes, ends, admits}
use Rattle.render.proofs.Tested.{or_left}
use Rattle.render.proofs.Forms.{form_passes, act_passes}
use Rattle.render.proofs.Stands.{is_some, has_last}
use Rattle.render.proofs.LineTokens.{tokens_then, tokens_ending, tokens_statement}

-- THE WORDS BEFORE WHICH A BLOCK ENDS

unfoldable pub is_back_word : ℕ → Bool
is_back_word w = eqb w (word "LAYER") || eqb w (word "END")

back_not_zero : is_back_word 0 ≡ true → ⊥
unfolding is_back_word keys values words raised upper same first_where word_of
back_not_zero e = false≢true e

pub back_key : (w : ℕ) → is_back_word w ≡ true → is_key w ≡ true
unfolding is_back_word keys values words raised upper same first_where word_of is_key
back_key w e = go (eqb w (word "LAYER")) (eqb w (word "END")) refl refl e
  where
    go : (a b : Bool) → eqb w (word "LAYER") ≡ a → eqb w (word "END") ≡ b → (a || b) ≡ true → is_key w ≡ true
    go true b p q e = rw (eqb-true w (word "LAYER") p)
    go false true p q e = rw (eqb-true w (word "END") q)
    go false false p q e = absurd (false≢true e)

-- the row of such a word alone gives what is ahead back
abbrev back_by : ℕ → Act → Bool
back_by w act = not (is_back act) || is_back_word w

abbrev back_rows : List Row → Bool
back_rows rows = all (λ w. back_by (word w.begin) w.act) rows

abbrev back_body : Body → Bool
back_body (keyed n rows) = back_rows rows
back_body (worded rows) = true
back_body (options rows b) = true
back_body (parts k is) = true
back_body (counted k is) = true

backs_pass : (b : Block) → back_body (body b) ≡ true
unfolding all is_back_word keys values words raised upper same first_where word_of
backs_pass = at_block back_body refl

act_back : (n w : ℕ) (rows : List Row) → back_rows rows ≡ true → is_back (act_for n w rows) ≡ true → is_back_word w ≡ true
act_back n w rows t e = or_left (is_back (act_for n w rows)) e (act_passes back_by n w rows refl t)

pub before_word : (w : ℕ) (f : Frame ℕ) → has_last (body f.block) ≡ false → ends_before w f (body f.block) ≡ true → is_back_word w ≡ true
before_word w f = in_body (body f.block) (backs_pass f.block)
  where
    in_rows : (n : ℕ) (rows : List Row) (c : Maybe Close) → back_rows rows ≡ true → is_some c ≡ false → closes f c (act_for n w rows) ≡ true → is_back_word w ≡ true
    in_rows n rows none t h e = act_back n w rows t e
    in_rows n rows (some c) t h e = absurd (false≢true (sym h))

    in_words : (rows : List Row) (c : Maybe Close) → is_some c ≡ false → closes f c (refuse 0) ≡ true → is_back_word w ≡ true
    in_words rows none h e = absurd (false≢true e)
    in_words rows (some c) h e = absurd (false≢true (sym h))

    in_body : (b : Body) → back_body b ≡ true → has_last b ≡ false → ends_before w f b ≡ true → is_back_word w ≡ true
    in_body (keyed n rows) t h e = in_rows n rows (close_of rows) t h e
    in_body (worded rows) t h e = in_words rows (close_of rows) h e
    in_body (options rows b) t h e = absurd (false≢true e)
    in_body (parts k is) t h e = absurd (false≢true (sym h))
    in_body (counted k is) t h e = absurd (false≢true (sym h))

-- WHAT IS WRITTEN NEXT

-- a name that spells the word comes first
abbrev pub Heads : ℕ → List Said → Type 0
Heads w [] = ⊥
Heads w (u ∷ us) = (u.kind ≡ Kind.name) × (word_of u.bytes ≡ w)

heads_begin : (label : List ℕ) (m : Form) (r : Plain) (us : List Said) → is_back_word (first_word m.begin) ≡ true → Heads (first_word m.begin) (said_in label m r ++ us)
unfolding said_in begins
heads_begin label m r us h = go m.begin h
  where
    go : (ws : List String) → is_back_word (first_word ws) ≡ true → Heads (first_word ws) ((begins ws ++ says_all 0 label m.items r) ++ us)
    go [] h = absurd (back_not_zero h)
    go (w ∷ ws) h = (refl, refl)

heads_last : (label : List ℕ) (c : Maybe Close) (us : List Said) → is_back_word (close_word c) ≡ true → Heads (close_word c) (last_words label c ++ us)
unfolding last_words
heads_last label none us h = absurd (back_not_zero h)
heads_last label (some c) us h = (refl, refl)

-- the end of a block
heads_closing : (f : Frame ℕ) (fs : List (Frame ℕ)) (us : List Said) → is_back_word (last_word (body f.block)) ≡ true
    → Heads (last_word (body f.block)) (tokens (closing f fs) ++ us)
heads_closing f fs us h = go (body f.block) refl h
  where
    go : (b : Body) → body f.block ≡ b → is_back_word (last_word b) ≡ true → Heads (last_word b) (tokens (closing f fs) ++ us)
    go (keyed n rows) e h = rw (e, e, tokens_ending) (heads_last f.label (close_of rows) us h)
    go (worded rows) e h = rw (e, e, tokens_ending) (heads_last f.label (close_of rows) us h)
    go (options rows b) e h = absurd (back_not_zero h)
    go (parts k is) e h = absurd (back_not_zero h)
    go (counted k is) e h = absurd (back_not_zero h)

-- after options no record begins with such a word
abbrev is_other : Form → Bool
is_other m = not (is_back_word (first_word m.begin))

abbrev others_after : Body → Bool
others_after (keyed n rows) = true
others_after (worded rows) = true
others_after (options rows b) = all is_other (forms_in (body b))
others_after (parts k is) = true
others_after (counted k is) = true

others_pass : (b : Block) → others_after (body b) ≡ true
unfolding all forms_in row_forms forms_of is_back_word keys values words raised upper same first_where word_of
others_pass = at_block others_after refl

module _ (f : Frame ℕ) (r : Plain) (m : Form) where
  -- no line of options ends where a record comes that begins with such a word
  nothing_before : form_in (taking f r) r ≡ some m → is_back_word (first_word m.begin) ≡ true → tokens (before f (form_in f r)) ≡ []
  unfolding tokens
  nothing_before e h = by_form (form_in f r) refl
    where
      by_body : (b : Body) → others_after b ≡ true → form_in (settled_by f b) r ≡ some m → tokens (settling b) ≡ []
      by_body (keyed n rows) t e = refl
      by_body (worded rows) t e = refl
      by_body (options rows b) t e = absurd (false≢true (rw h at (form_passes is_other r (forms_in (body b)) m t e)))
      by_body (parts k is) t e = refl
      by_body (counted k is) t e = refl

      by_form : (o : Maybe Form) → form_in f r ≡ o → tokens (before f o) ≡ []
      by_form none z = by_body (body f.block) (others_pass f.block) (rw z at e)
      by_form (some n) z = refl

-- the record r
pub heads_comes : (v : ℕ) (fs : List (Frame ℕ)) (r : Plain) (us : List Said) → admits v fs r ≡ true → is_back_word (comes fs r) ≡ true → Heads (comes fs r) (tokens (pieces fs r) ++ us)
unfolding admits pieces
heads_comes v [] r us t h = absurd (false≢true t)
heads_comes v (f ∷ fs) r us t h = go (owns f r) t h
  where
    owned : (o : Maybe Form) → form_in (taking f r) r ≡ o → takes v (taking f r) r o ≡ true → is_back_word (begin_word o) ≡ true
        → Heads (begin_word o) (tokens (before f (form_in f r) ++ statement (length fs) (taking f r) r o) ++ us)
    owned none e t h = absurd (false≢true t)
    owned (some m) e t h =
        rw (tokens_then (before f (form_in f r)) (statement (length fs) (taking f r) r (some m)) us, nothing_before f r m e h, tokens_statement)
        (heads_begin (taking f r).label m r us h)

    go : (c : Bool) → cond c (takes v (taking f r) r (form_in (taking f r) r)) (may_end f (comes fs r) && admits v fs r) ≡ true
        → is_back_word (cond c (begin_word (form_in (taking f r) r)) (last_word (body f.block))) ≡ true
        → Heads (cond c (begin_word (form_in (taking f r) r)) (last_word (body f.block)))
        (tokens (cond c (before f (form_in f r) ++ statement (length fs) (taking f r) r (form_in (taking f r) r)) (closing f fs ++ pieces fs r)) ++ us)
    go true t h = owned (form_in (taking f r) r) refl t h
    go false t h = rw (tokens_then (closing f fs) (pieces fs r) us) (heads_closing f fs (tokens (pieces fs r) ++ us) h)

-- the end of all blocks
pub heads_ends : (fs : List (Frame ℕ)) (us : List Said) → is_back_word (ends fs) ≡ true → Heads (ends fs) (tokens (end_all fs) ++ us)
unfolding end_all
heads_ends [] us h = absurd (back_not_zero h)
heads_ends (f ∷ fs) us h = rw (tokens_then (closing f fs) (end_all fs) us) (heads_closing f fs (tokens (end_all fs) ++ us) h)
