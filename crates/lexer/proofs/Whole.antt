-- The laws of all the answers of a text: calls of `lex`, each from where the last token ended, give them all.
use Prim.Native.Nat.{ℕ, suc, ◌-◌, ◌≤◌, ◌<◌}
use mathlib.Core.Path.{◌≡◌, refl, ap, ◌∙◌}
use mathlib.Core.Logic.{⊎_elim}
use mathlib.Core.List.Memᴰ
use mathlib.Core.List.{List, [], ◌∷◌, Memᴰ}
use native.Mathlib.Omega.{arith}
use lib.ListN.{length}
use Rattle.lexer.specs.declared.Token.{Token}
use Rattle.lexer.specs.declared.Lexed.{Lexed}
use Rattle.lexer.specs.declared.Lexed.TheVariants.{Found, End, Bad}
use Rattle.lexer.specs.Lex.{from, rest, lex_from}
use Rattle.lexer.specs.Places.{Span}
use Rattle.lexer.proofs.Laws.{none, first}
use Rattle.lexer.proofs.First.{everywhere, first_answer}

-- the answers from a place on are the first answer and those that follow it
pub unrolls : (s : List ℕ) (i n : ℕ) → from s i n ≡ lex_from s i n ∷ rest s (lex_from s i n)
unrolls s i n = (first_answer s i n).whole

-- the same by cases of the first answer
module _ (s : List ℕ) (i n : ℕ) (r : Lexed) (q : r ≡ lex_from s i n) where
  pub next : (t : Token) → r ≡ Found t → from s i n ≡ r ∷ from s t.stop t.line
  next t e = unrolls s i n ∙ rw (← q, e)

  pub more : (t : Token) → r ≡ Found t → length (from s i n) ≡ suc (length (from s t.stop t.line))
  more t e = ap length (next t e)

  pub last : (m : ℕ) → r ≡ End m → from s i n ≡ r ∷ []
  last m e = unrolls s i n ∙ rw (← q, e)

  pub last_bad : (j m : ℕ) → r ≡ Bad j m → from s i n ≡ r ∷ []
  last_bad j m e = unrolls s i n ∙ rw (← q, e)

-- a first answer that is a token lies after the place and within the text
pub found_within : (s : List ℕ) (i n : ℕ) (t : Token) → lex_from s i n ≡ Found t → Span s i t.start t.stop
found_within s i n t e = rw e at (first_answer s i n).within

-- there is at most one answer more than bytes
counted : (s : List ℕ) (i n : ℕ) → ((j m : ℕ) → i < j → length (from s j m) ≤ suc (length s - j))
    → (a : Lexed) → lex_from s i n ≡ a → length (a ∷ rest s a) ≤ suc (length s - i)
counted s i n h (Found t) e =
    let w = found_within s i n t e in
    omega (arith, h t.stop t.line (omega arith))
counted s i n h (End m) e = omega arith
counted s i n h (Bad j m) e = omega arith

pub few : (s : List ℕ) (i n : ℕ) → length (from s i n) ≤ suc (length s - i)
few s =
    everywhere s (λ i n. length (from s i n) ≤ suc (length s - i))
    (λ i n h. rw (none s i n h) (omega arith))
    (λ i n h f. rw (unrolls s i n) (counted s i n f (lex_from s i n) refl))

-- what holds of each first answer, and of the answers after a token from before it too, holds of each answer
module _ (s : List ℕ) (Q : ℕ → ℕ → Lexed → Type 0)
    (f : (i n : ℕ) → Q i n (lex_from s i n))
    (g : (i n : ℕ) (t : Token) → lex_from s i n ≡ Found t → (r : Lexed) → Memᴰ r (from s t.stop t.line) → Q t.stop t.line r → Q i n r) where
  follows : (i n : ℕ) → ((j m : ℕ) → i < j → (r : Lexed) → Memᴰ r (from s j m) → Q j m r)
      → (a r : Lexed) → lex_from s i n ≡ a → Memᴰ r (rest s a) → Q i n r
  follows i n h (Found t) r e m = g i n t e r m (h t.stop t.line (let w = found_within s i n t e in omega arith) r m)
  follows i n h (End k) r e m = absurd (Memᴰ.not-nil m)
  follows i n h (Bad j k) r e m = absurd (Memᴰ.not-nil m)

  pub each : (i n : ℕ) (r : Lexed) → Memᴰ r (from s i n) → Q i n r
  each =
      everywhere s (λ i n. (r : Lexed) → Memᴰ r (from s i n) → Q i n r)
      (λ i n h r m. rw (Memᴰ.eq_of_singleton (rw (none s i n h) at m) ∙ first s i n _ [] (none s i n h)) (f i n))
      (λ i n h k r m. ⊎_elim (λ e. rw e (f i n)) (follows i n k (lex_from s i n) r refl) (Memᴰ.cases_cons (rw (unrolls s i n) at m)))
