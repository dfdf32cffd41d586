-- A token that is found is of one of the four kinds, since each byte that starts one gives its kind; and a kind has a number of its own.
use Prim.Native.Nat.{ℕ, ◌+◌, ◌≤◌, ◌<◌}
use mathlib.Core.Path.{◌≡◌, refl, sym, ap, ◌∙◌}
use mathlib.Core.Bool.{Bool, true, false, cond, not}
use mathlib.Core.List.{List, ◌∷◌}
use native.Mathlib.Omega.{arith}
use borrow.Author.Tests.{eq-eqb, ne_eqb}
use lib.Dec.{eqb}
use lib.ListN.{get_or}
use Rattle.lexer.specs.declared.scan.Class.{Class}
use Rattle.lexer.specs.declared.scan.Class.TheVariants.{Letter, Space, Digit, SemiColon, NewLine, Quote, Hash, Other}
use denote.Enum.Bare.{sameb, same_true, same_false}
use Rattle.std.proofs.Common.{rules}
use Rattle.lexer.specs.contracts.Kind.{the_type}
use Rattle.lexer.specs.declared.Kind.{Kind}
use Rattle.lexer.specs.declared.Lexed.{Lexed}
use Rattle.lexer.specs.declared.Lexed.TheVariants.{Found, End, Bad}
use Rattle.lexer.specs.Bytes.{class_of, in_comment}
use Rattle.lexer.specs.Run.{past}
use Rattle.lexer.specs.Kinds.{name, string_literal, number_of}
use Rattle.lexer.specs.Lex.{from, first_answer, lex_from}
use Rattle.lexer.proofs.Laws.{At, none, at_letter, at_space, at_digit, at_semicolon, at_newline, at_quote, at_hash, at_other}
use Rattle.lexer.proofs.First.{everywhere}

abbrev pub Kinded : Lexed → Type 0
Kinded (Found t) = (name ≤ number_of t.kind) × (number_of t.kind ≤ string_literal)
Kinded (End n) = Unit {0}
Kinded (Bad i n) = Unit {0}

said : (s : List ℕ) (i n : ℕ) (r : Lexed) (rs : List Lexed) → from s i n ≡ r ∷ rs → Kinded r → Kinded (lex_from s i n)
unfolding first_answer
said s i n r rs q k = rw q k

via : (s : List ℕ) (i n j m : ℕ) → from s i n ≡ from s j m → Kinded (lex_from s j m) → Kinded (lex_from s i n)
via s i n j m q k = rw q k

one : (s : List ℕ) (i n : ℕ) → ((j m : ℕ) → i < j → Kinded (lex_from s j m)) → (c : Class) → At s i n c → Kinded (lex_from s i n)
one s i n f Letter a = said s i n _ _ (at_letter a _ refl) (omega arith, omega arith)
one s i n f Space a = via s i n _ _ (at_space a) (f (i + 1) n (omega arith))
one s i n f Digit a = said s i n _ _ (at_digit a _ refl) (omega arith, omega arith)
one s i n f SemiColon a = said s i n _ _ (at_semicolon a) (omega arith, omega arith)
one s i n f NewLine a = via s i n _ _ (at_newline a _ refl) (f (i + 1) _ (omega arith))
one s i n f Quote a = said s i n _ _ (at_quote a _ refl) (omega arith, omega arith)
one s i n f Hash a = via s i n _ _ (at_hash a _ refl) (f (past in_comment s (i + 1)) n (omega arith))
one s i n f Other a = said s i n _ _ (at_other a) tt

pub kinded : (s : List ℕ) (i n : ℕ) → Kinded (lex_from s i n)
kinded s =
    everywhere s (λ i n. Kinded (lex_from s i n))
    (λ i n h. said s i n _ _ (none s i n h) tt)
    (λ i n h f. one s i n f (class_of (get_or s i 0)) (record { inside = h; class = refl }))

-- a kind is read back from its number
abbrev pub kind_of : ℕ → Kind
kind_of n = cond (eqb n 1) Kind.Name (cond (eqb n 2) Kind.Number (cond (eqb n 3) Kind.SemiColon (cond (eqb n 4) Kind.StringLiteral Kind.End)))

pub kind_back : (k : Kind) → kind_of (number_of k) ≡ k
kind_back Kind.End = refl
kind_back Kind.Name = refl
kind_back Kind.Number = refl
kind_back Kind.SemiColon = refl
kind_back Kind.StringLiteral = refl

pub same_kind : (k j : Kind) → number_of k ≡ number_of j → k ≡ j
same_kind k j e = sym (kind_back k) ∙ ap kind_of e ∙ kind_back j

pub kind_eqb : (k j : Kind) → k ≡ j → eqb (number_of k) (number_of j) ≡ true
kind_eqb k j e = eq-eqb (number_of k) (number_of j) (ap number_of e)

pub kind_ne : (k j : Kind) → (k ≡ j → ⊥) → eqb (number_of k) (number_of j) ≡ false
kind_ne k j h = ne_eqb (number_of k) (number_of j) (λ e. h (same_kind k j e))

-- what `==` of two kinds answers
pub by_number : (k j : Kind) → sameb the_type k j ≡ eqb (number_of k) (number_of j)
by_number k j = go (sameb the_type k j) refl
  where
    go : (t : Bool) → sameb the_type k j ≡ t → t ≡ eqb (number_of k) (number_of j)
    go true e = sym (kind_eqb k j (same_true the_type (search rules) k j e))
    go false e = sym (kind_ne k j (same_false the_type k j e))

-- what a test by it decides
pub kind_test : {r b : Bool} (k j : Kind) → r ≡ sameb the_type k j → r ≡ b → eqb (number_of k) (number_of j) ≡ b
kind_test k j e q = sym (e ∙ by_number k j) ∙ q

twice : (a : Bool) → not (not a) ≡ a
twice true = refl
twice false = refl

pub kind_differs : {r b : Bool} (k j : Kind) → r ≡ not (sameb the_type k j) → r ≡ b → eqb (number_of k) (number_of j) ≡ not b
kind_differs k j e q = sym (by_number k j) ∙ (sym (twice (sameb the_type k j)) ∙ ap not (sym e ∙ q))
