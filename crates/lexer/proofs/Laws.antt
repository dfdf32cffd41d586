-- The laws of the answers at a byte of each class, which the loop of `lex` cites.
use Prim.Native.Nat.{ℕ, zero, suc, ◌+◌, ◌≤◌, ◌<◌, min}
use mathlib.Core.Path.{◌≡◌, refl, sym, ap, ◌∙◌}
use mathlib.Core.Bool.{Bool, true, false, cond}
use mathlib.Core.List.{List, [], ◌∷◌}
use native.Mathlib.Nat.{add-zero}
use native.Mathlib.Omega.{arith}
use borrow.Author.Tests.{eqb-true}
use lib.ListN.{length, drop, get_or, drop_of_length-le, length-drop}
use lib.Seq.{drop-drop}
use Rattle.lexer.specs.declared.scan.Class.{Class}
use Rattle.lexer.specs.declared.scan.Class.TheVariants.{Letter, Space, Digit, SemiColon, NewLine, Quote, Hash, Other}
use Rattle.lexer.specs.declared.Lexed.{Lexed}
use Rattle.lexer.specs.declared.Lexed.TheVariants.{End, Bad}
use Rattle.lexer.specs.Bytes.{class_of, in_name, in_number, in_string, in_comment}
use Rattle.lexer.specs.Run.{run, past}
use Rattle.lexer.specs.Eight.{is_blank}
use Rattle.lexer.specs.declared.Kind.{Kind}
use Rattle.lexer.specs.Lex.{answers, from, first_answer, lex_from, next_line, token}
use Rattle.lexer.proofs.Runs.{step}

-- to pass over m bytes is to start after them
skip : (m : ℕ) (l : List ℕ) (i n : ℕ) → answers m l i n ≡ answers 0 (drop m l) (i + m) n
unfolding answers
skip zero l i n = rw add-zero
skip (suc m) [] i n = refl
skip (suc m) (b ∷ l) i n =
    let shift : i + suc m ≡ i + 1 + m = omega arith in
    rw shift (skip m l (i + 1) n)

over : (s : List ℕ) (m i n : ℕ) → answers m (drop i s) i n ≡ from s (i + m) n
unfolding from
over s m i n = skip m (drop i s) i n ∙ ap (λ l. answers 0 l (i + m) n) (drop-drop m i s)

-- at the end of the text
pub none : (s : List ℕ) (i n : ℕ) → length s ≤ i → from s i n ≡ End n ∷ []
unfolding from answers
none s i n h = rw (drop_of_length-le s)

-- the place i of the text s, on the line n, holds a byte of the class k
pub record At (s : List ℕ) (i n : ℕ) (k : Class) : Type 0 where
  pub inside : i < length s
  pub class : class_of (get_or s i 0) ≡ k

pub at : {s : List ℕ} {i n b : ℕ} {k r : Class} → (i < length s) × ((d : ℕ) → b ≡ get_or s i d) → r ≡ class_of b → r ≡ k → At s i n k
at h e q = record { inside = h.0; class = rw (← h.1 0) (sym e ∙ q) }

-- a token of 1 + m bytes, and the answers after it
taken : (s : List ℕ) (i n : ℕ) (k : Kind) (m j : ℕ) → j ≡ i + 1 + m → token k i (i + 1 + m) n ∷ answers m (drop (i + 1) s) (i + 1) n ≡ token k i j n ∷ from s j n
taken s i n k m j q = rw q (ap (◌∷◌ (token k i (i + 1 + m) n)) (over s m (i + 1) n))

pub at_letter : {s : List ℕ} {i n : ℕ} → At s i n Letter → (j : ℕ) → j ≡ past in_name s (i + 1) → from s i n ≡ token Kind.Name i j n ∷ from s j n
unfolding from answers
at_letter {s} {i} {n} a j q = rw (step s i a.inside) (rw (a.class, answers) (taken s i n Kind.Name _ j q))

pub at_space : {s : List ℕ} {i n : ℕ} → At s i n Space → from s i n ≡ from s (i + 1) n
unfolding from answers
at_space {s} {i} a = rw (step s i a.inside) (rw (a.class, answers))

pub at_digit : {s : List ℕ} {i n : ℕ} → At s i n Digit → (j : ℕ) → j ≡ past in_number s (i + 1) → from s i n ≡ token Kind.Number i j n ∷ from s j n
unfolding from answers
at_digit {s} {i} {n} a j q = rw (step s i a.inside) (rw (a.class, answers) (taken s i n Kind.Number _ j q))

pub at_semicolon : {s : List ℕ} {i n : ℕ} → At s i n SemiColon → from s i n ≡ token Kind.SemiColon i (i + 1) n ∷ from s (i + 1) n
unfolding from answers
at_semicolon {s} {i} a = rw (step s i a.inside) (rw (a.class, answers))

pub at_newline : {s : List ℕ} {i n : ℕ} → At s i n NewLine → (m : ℕ) → m ≡ next_line n → from s i n ≡ from s (i + 1) m
unfolding from answers
at_newline {s} {i} a m q = rw (step s i a.inside) (rw (a.class, answers, q))

-- blanks are passed over
blank_run : (l : List ℕ) (i n : ℕ) → answers 0 l i n ≡ answers (run is_blank l) l i n
unfolding answers run class_of
blank_run [] i n = refl
blank_run (b ∷ l) i n = go (is_blank b) refl (blank_run l (i + 1) n)
  where
    go : (t : Bool) → is_blank b ≡ t → answers 0 l (i + 1) n ≡ answers (run is_blank l) l (i + 1) n → answers 0 (b ∷ l) i n ≡ answers (cond t (suc (run is_blank l)) 0) (b ∷ l) i n
    go true e h = rw (eqb-true b 32 e) h
    go false e h = refl

blanks : (s : List ℕ) (i n : ℕ) → from s i n ≡ from s (past is_blank s i) n
unfolding from
blanks s i n = blank_run (drop i s) i n ∙ over s (run is_blank (drop i s)) i n

pub at_blanks : (s : List ℕ) (i j n : ℕ) → past is_blank s j ≡ past is_blank s i → from s i n ≡ from s j n
at_blanks s i j n q = blanks s i n ∙ ap (λ k. from s k n) (sym q) ∙ sym (blanks s j n)

pub at_quote : {s : List ℕ} {i n : ℕ} → At s i n Quote → (j : ℕ) → j ≡ min (past in_string s (i + 1) + 1) (length s) → from s i n ≡ token Kind.StringLiteral i j n ∷ from s j n
unfolding from answers
at_quote {s} {i} {n} a j q = rw (step s i a.inside) (rw (a.class, answers) (taken s i n Kind.StringLiteral _ j (omega (arith, a.inside, length-drop (i + 1) s))))

pub at_hash : {s : List ℕ} {i n : ℕ} → At s i n Hash → (j : ℕ) → j ≡ past in_comment s (i + 1) → from s i n ≡ from s j n
unfolding from answers
at_hash {s} {i} {n} a j q = rw (q, step s i a.inside) (rw (a.class, answers) (over s (run in_comment (drop (i + 1) s)) (i + 1) n))

pub at_other : {s : List ℕ} {i n : ℕ} → At s i n Other → from s i n ≡ Bad i n ∷ []
unfolding from answers
at_other {s} {i} a = rw (step s i a.inside) (rw (a.class, answers))

-- the first answer
pub first : (s : List ℕ) (i n : ℕ) (r : Lexed) (rs : List Lexed) → from s i n ≡ r ∷ rs → r ≡ lex_from s i n
unfolding first_answer
first s i n r rs q = sym (ap first_answer q)
