-- What is read: tokens, one of them held ahead, and how one is taken.
use Rattle.std.specs.Prelude.{ℕ, Bool, cond, List, [], ◌∷◌, eqb}

-- A token: its kind, its bytes, where it starts and the mark that a complaint makes while it is held. What a start and a mark
-- are is left open (A and M): they are copied and never looked at.
pub record Tok (A M : Type 0) : Type 0 where
  pub kind : ℕ
  pub bytes : List ℕ
  pub at : A
  pub mark : M

-- beside the lexer's kinds: the end of the text, and a byte that starts no token. A list of tokens ends with one of them.
abbrev pub end : ℕ
end = 0

abbrev pub bad : ℕ
bad = 5

-- the token held, and those after it
pub record Ahead (A M : Type 0) : Type 0 where
  pub held : Tok A M
  pub rest : List (Tok A M)

-- done, with what is then ahead; or refused: the number and the mark
pub data Answer (A M B : Type 0) : Type 0 where
  ok : B → Ahead A M → Answer A M B
  refused : ℕ → M → Answer A M B

abbrev pub then : {A M B C : Type 0} → Answer A M B → (B → Ahead A M → Answer A M C) → Answer A M C
then (ok b a) k = k b a
then (refused n m) k = refused n m

-- a complaint: its mark is that of the token held
abbrev pub complain : {A M B : Type 0} → ℕ → Ahead A M → Answer A M B
complain n a = refused n a.held.mark

-- taking a token first reads the next: a byte that starts no token is refused before any complaint. The end cannot be taken.
unfoldable pub next : {A M : Type 0} → Tok A M → List (Tok A M) → Answer A M (Tok A M)
next t [] = refused 4 t.mark
next t (n ∷ r) = cond (eqb n.kind bad) (refused 3 n.mark) (ok t (record { held = n; rest = r }))

abbrev pub next_token : {A M : Type 0} → Ahead A M → Answer A M (Tok A M)
next_token a = next a.held a.rest

-- whether the token held is of a kind
abbrev pub matches : {A M : Type 0} → ℕ → Ahead A M → Bool
matches k a = eqb a.held.kind k

-- takes a token of a kind; another is 4
unfoldable pub expect : {A M : Type 0} → ℕ → Ahead A M → Answer A M (Tok A M)
expect k a = then (next_token a) (λ t b. cond (eqb t.kind k) (ok t b) (complain 4 b))
