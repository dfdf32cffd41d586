-- A block's end that is written is read as its end: its last words by a turn of their own, and where it has none its turn is that of
-- the blocks around it.
use Prim.Native.Nat.{ℕ}
use mathlib.Core.Path.{◌≡◌, refl, sym, ap, subst, ◌∙◌}
use mathlib.Core.Bool.{Bool, true, false, false≢true}
use mathlib.Core.List.{List, [], ◌∷◌, ◌++◌}
use Rattle.word.specs.Words.{word_of, is_key}
use Rattle.grammar.specs.Tokens.{Ahead}
use Rattle.grammar.specs.Grammar.{Body, keyed, worded, options, parts, counted}
use Rattle.grammar.specs.Table.{body}
use Rattle.grammar.specs.Engine.{Maybe, none, some, Frame}
use Rattle.grammar.specs.Turns.{state}
use Rattle.grammar.specs.Reading.{Mark}
use Rattle.grammar.proofs.Falls.{read_on}
use Rattle.render.specs.Pieces.{Said, tokens}
use Rattle.render.specs.Forms.{Close, close_of, last_words}
use Rattle.render.specs.Lines.{spaced, settled_by, settled, settling}
use Rattle.render.specs.Fit.{ends_before, may_end}
use Rattle.render.proofs.Stands.{standing, follows, is_some, has_last, last_of}
use Rattle.render.proofs.Settled.{settled_keeps}
use Rattle.render.proofs.LineTokens.{last_of_lexable, follows_more}
use Rattle.render.proofs.EndsBack.{last_back, options_back, before_back}
use Rattle.render.proofs.Turns.{become_reads, around_reads, rest_reads}
use Rattle.render.proofs.NextWord.{is_back_word, back_key, before_word, Heads}

no_last : (label : List ℕ) (b : Body) → has_last b ≡ false → last_of label b ≡ []
unfolding last_words
no_last label b = go b
  where
    in_rows : (c : Maybe Close) → is_some c ≡ false → last_words label c ≡ []
    in_rows none h = refl
    in_rows (some c) h = absurd (false≢true (sym h))

    go : (b : Body) → has_last b ≡ false → last_of label b ≡ []
    go (keyed n rows) h = in_rows (close_of rows) h
    go (worded rows) h = in_rows (close_of rows) h
    go (options rows b) h = refl
    go (parts k is) h = absurd (false≢true (sym h))
    go (counted k is) h = absurd (false≢true (sym h))

-- the line of options ends
pub settle_back : (v : ℕ) (f : Frame ℕ) (fs : List (Frame ℕ)) (a : Ahead ℕ Mark) (us : List Said)
    → standing a ≡ tokens (settling (body f.block)) ++ us → follows [] us ≡ true
    → (b : Ahead ℕ Mark) × (read_on (state v (f ∷ fs)) a ≡ read_on (state v (settled f ∷ fs)) b) × (standing b ≡ us)
unfolding tokens spaced
settle_back v f fs a us e k = go (body f.block) refl e
  where
    go : (b : Body) → body f.block ≡ b → standing a ≡ tokens (settling b) ++ us
        → (c : Ahead ℕ Mark) × (read_on (state v (f ∷ fs)) a ≡ read_on (state v (settled_by f b ∷ fs)) c) × (standing c ≡ us)
    go (keyed n rows) q e = (a, refl, e)
    go (worded rows) q e = (a, refl, e)
    go (options rows b) q e =
        let (c, s, d) = options_back v f rows b a us q e k in
        (c, become_reads v f fs a c b s, d)
    go (parts l is) q e = (a, refl, e)
    go (counted l is) q e = (a, refl, e)

-- a block with no last words ends before the word
before_ends : (v w : ℕ) (f : Frame ℕ) (fs : List (Frame ℕ)) (a : Ahead ℕ Mark)
    → has_last (body f.block) ≡ false → ends_before w f (body f.block) ≡ true → Heads w (standing a)
    → read_on (state v (f ∷ fs)) a ≡ read_on (state v fs) a
before_ends v w f fs a n e h =
    let g : is_key (word_of a.held.bytes) ≡ true = rw h.1 (back_key w (before_word w f n e)) in
    around_reads v f fs a (before_back v f a n h.0 g (rw h.1 e))

-- a block ends by its last words
last_ends : (v w : ℕ) (f : Frame ℕ) (fs : List (Frame ℕ)) (a : Ahead ℕ Mark) (us : List Said)
    → has_last (body f.block) ≡ true → ends_before w f (body f.block) ≡ true → standing a ≡ last_of f.label (body f.block) ++ us → follows [] us ≡ true
    → (b : Ahead ℕ Mark) × (read_on (state v (f ∷ fs)) a ≡ read_on (state v fs) b) × (standing b ≡ us)
last_ends v w f fs a us n e s k =
    let (b, t, d) = last_back v w f a us n e s k in
    (b, rest_reads v f fs a b t, d)

-- A BLOCK ENDS, with its options before if it has them
pub closing_back : (v w : ℕ) (f : Frame ℕ) (fs : List (Frame ℕ)) (a : Ahead ℕ Mark) (us : List Said)
    → may_end f w ≡ true → standing a ≡ tokens (settling (body f.block)) ++ (last_of f.label (body (settled f).block) ++ us)
    → follows [] us ≡ true → (is_back_word w ≡ true → Heads w us)
    → (b : Ahead ℕ Mark) × (read_on (state v (f ∷ fs)) a ≡ read_on (state v fs) b) × (standing b ≡ us)
closing_back v w f fs a us m e k h =
    let l = last_of f.label (body (settled f).block) in
    let (b, p, d) = settle_back v f fs a (l ++ us) e (follows_more l us (last_of_lexable f.label (body (settled f).block)) k) in
    let (c, q, g) = go b d (has_last (body (settled f).block)) refl in
    (c, p ∙ q, g)
  where
    go : (b : Ahead ℕ Mark) → standing b ≡ last_of f.label (body (settled f).block) ++ us → (t : Bool) → has_last (body (settled f).block) ≡ t
        → (c : Ahead ℕ Mark) × (read_on (state v (settled f ∷ fs)) b ≡ read_on (state v fs) c) × (standing c ≡ us)
    go b d true n = last_ends v w (settled f) fs b us n m (d ∙ ap (λ l. last_of l (body (settled f).block) ++ us) (sym (settled_keeps f).0)) k
    go b d false n =
        let s : standing b ≡ us = d ∙ ap (λ l. l ++ us) (no_last f.label (body (settled f).block) n) in
        (b, before_ends v w (settled f) fs b n m (subst (Heads w) (sym s) (h (before_word w (settled f) n m))), s)
