-- What is written in two parts has the tokens and the bytes of the one and then those of the other, piece by piece; a line has the tokens that it was made of.
use Prim.Native.Nat.{ℕ}
use mathlib.Core.Path.{◌≡◌, refl, ◌∙◌}
use mathlib.Core.List.{List, [], ◌∷◌, ◌++◌, append_assoc, append-nil}
use Rattle.render.specs.Pieces.{Said, Piece, spaces, newline, token, text, tokens}
use Rattle.render.specs.Lines.{spaced, indented, line}

pub tokens_append : (ps qs : List Piece) → tokens (ps ++ qs) ≡ tokens ps ++ tokens qs
unfolding tokens
tokens_append [] qs = refl
tokens_append (spaces n ∷ ps) qs = tokens_append ps qs
tokens_append (newline ∷ ps) qs = tokens_append ps qs
tokens_append (token t ∷ ps) qs = rw (tokens_append ps qs)

pub text_append : (ps qs : List Piece) → text (ps ++ qs) ≡ text ps ++ text qs
unfolding text
text_append [] qs = refl
text_append (spaces n ∷ ps) qs = rw (text_append ps qs, append_assoc)
text_append (newline ∷ ps) qs = rw (text_append ps qs)
text_append (token t ∷ ps) qs = rw (text_append ps qs, append_assoc)

-- THE TOKENS OF A LINE

pub tokens_spaced : (ts : List Said) → tokens (spaced ts) ≡ ts
unfolding tokens spaced
tokens_spaced [] = refl
tokens_spaced (t ∷ ts) = rw (tokens_spaced ts)

pub tokens_indented : (depth : ℕ) (ts : List Said) → tokens (indented depth ts) ≡ ts
unfolding tokens indented
tokens_indented depth [] = refl
tokens_indented depth (t ∷ ts) = rw (tokens_spaced ts)

pub tokens_line : (depth : ℕ) (ts : List Said) → tokens (line depth ts) ≡ ts
unfolding tokens line
tokens_line depth [] = refl
tokens_line depth (t ∷ ts) = tokens_append (indented depth (t ∷ ts)) (newline ∷ []) ∙ rw (tokens_indented depth (t ∷ ts), append-nil)
