-- What is ahead of the code, one step of the lexer further: the laws of `next_token`.
use Prim.Native.Nat.{ℕ, zero, suc, ◌+◌, ◌-◌, ◌≤◌, ◌<◌}
use mathlib.Core.Path.{◌≡◌, refl, sym, ap, ◌∙◌}
use mathlib.Core.List.{List, [], ◌∷◌, map}
use native.Mathlib.Omega.{arith}
use borrow.Author.Tests.{ne_eqb, eq-eqb}
use lib.Dec.{eqb}
use lib.Pointwise.{pointwise}
use mathlib.Core.Bool.{◌&&◌}
use Rattle.word.specs.Words.{same}
use lib.ListN.{length, take, drop, drop_of_length-le, length-take, length-drop}
use lib.Seq.{take_all, take-nil, take-take, drop-drop}
use Rattle.lexer.specs.declared.Token.{Token}
use Rattle.lexer.specs.declared.Lexed.{Lexed}
use Rattle.lexer.specs.declared.Lexed.TheVariants.{Found, End, Bad}
use Rattle.lexer.specs.Lex.{from, rest, lex_from}
use Rattle.lexer.proofs.Whole.{unrolls}
use Rattle.lexer.proofs.Kinded.{kinded, kind_eqb, kind_ne}
use Rattle.lexer.specs.declared.Kind.{Kind}
use Rattle.lexer.specs.Kinds.{number_of}
use Rattle.grammar.specs.Tokens.{refused, next}
use Rattle.grammar.specs.Tokens.{next_token}
use Rattle.grammar.specs.Reading.{tok}
use Rattle.parser.specs.Code.{rest_of, ahead_of, held_next, as_taken}

-- the tokens from a place on, by the first
opened : (s : List ℕ) (i n : ℕ) (r : Lexed) → r ≡ lex_from s i n → map (tok s) (from s i n) ≡ tok s r ∷ map (tok s) (rest s r)
opened s i n r q = rw (unrolls s i n, q)

pub end_bytes : (s : List ℕ) → take (length s - length s) (drop (length s) s) ≡ []
end_bytes s = let z : length s - length s ≡ 0 = omega arith in rw z

-- the end is not taken
pub at_end : (s : List ℕ) (h : Token) → h.kind ≡ Kind.End → next_token (ahead_of s h) ≡ refused 4 (record { place = h.stop; line = h.line })
unfolding next rest_of
at_end s h z = rw (kind_eqb h.kind Kind.End z)

-- any other token is, and the lexer's answer from its stop on is held next
module _ (s : List ℕ) (h : Token) (z : h.kind ≡ Kind.End → ⊥) where
  pub taken : (r : Lexed) → r ≡ lex_from s h.stop h.line → as_taken s h (held_next s r) ≡ next_token (ahead_of s h)
  unfolding next rest_of
  taken (Found t) q =
      let k : (1 ≤ number_of t.kind) × (number_of t.kind ≤ 4) = rw (← q) at (kinded s h.stop h.line) in
      sym (rw (kind_ne h.kind Kind.End z, opened s h.stop h.line (Found t) q, ne_eqb (number_of t.kind) 5 (omega arith), ne_eqb (number_of t.kind) 0 (omega arith)))
  taken (End n) q = sym (rw (kind_ne h.kind Kind.End z, opened s h.stop h.line (End n) q, end_bytes s))
  taken (Bad i n) q = sym (rw (kind_ne h.kind Kind.End z, opened s h.stop h.line (Bad i n) q))

  pub not_end : as_taken s h (held_next s (lex_from s h.stop h.line)) ≡ next_token (ahead_of s h)
  not_end = taken (lex_from s h.stop h.line) refl

-- the bytes of a span that reaches outside the text
module _ (s : List ℕ) (a e : ℕ) where
  pub outside : length s ≤ a → [] ≡ take (e - a) (drop a s)
  outside h = rw (drop_of_length-le s h, take-nil (e - a))

  pub cut : length s < e → take (length s - a) (drop a s) ≡ take (e - a) (drop a s)
  cut h =
      take_all (length s - a) (drop a s) (simp length-drop (omega arith))
      ∙ sym (take_all (e - a) (drop a s) (simp length-drop (omega arith)))

  pub turned : e < a → [] ≡ take (e - a) (drop a s)
  turned h = let z : e - a ≡ 0 = omega arith in rw z

-- as many bytes of a list as a part from its front has are that part
pub as_long : (n : ℕ) (l : List ℕ) → take (length (take n l)) l ≡ take n l
as_long zero l = refl
as_long (suc n) [] = refl
as_long (suc n) (b ∷ l) = ap (b ∷◌) (as_long n l)

-- what stands inside quotes, of a token whose length is known
pub inside_long : (n : ℕ) (l : List ℕ) → length l ≡ n + 2 → length (take n (drop 1 l)) ≡ n
inside_long n l e = omega (arith, length-take n (drop 1 l), length-drop 1 l, e)

-- the front of a part's rest, as far as the part goes
within : (n m : ℕ) (l : List ℕ) → n + 1 ≤ m → take n (drop 1 (take m l)) ≡ take n (drop 1 l)
within n zero l h = absurd (omega arith)
within n (suc m) [] h = refl
within n (suc m) (b ∷ l) h = take-take n m l (omega arith)

-- what stands inside quotes, of a token whose length is known, stands in the text one byte after the token's start
pub inside_at : (s : List ℕ) (a m n : ℕ) → length (take m (drop a s)) ≡ n + 2 → take n (drop 1 (take m (drop a s))) ≡ take n (drop (a + 1) s)
inside_at s a m n e =
    within n m (drop a s) (omega (arith, length-take m (drop a s), e))
    ∙ ap (take n) (drop-drop 1 a s)

-- a part that has bytes starts within the text
pub span_within : (s : List ℕ) (a n k : ℕ) → length (take n (drop a s)) ≡ k → 1 ≤ k → a < length s
span_within s a n k e h = omega (arith, length-take n (drop a s), length-drop a s, e, h)

-- bytes compared one by one, as `==` does
pub pointwise_same : (s t : List ℕ) → pointwise eqb s t ≡ same s t
unfolding same
pointwise_same [] [] = refl
pointwise_same [] (b ∷ t) = refl
pointwise_same (a ∷ s) [] = refl
pointwise_same (a ∷ s) (b ∷ t) = ap (eqb a b &&◌) (pointwise_same s t)
