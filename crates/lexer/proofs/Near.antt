-- The first answer near a place: a space, or a newline with the blanks behind it, is passed over, and the token is the byte there with its run.
use Prim.Native.Nat.{ℕ, ◌+◌, ◌/◌, ◌≤◌, ◌<◌}
use mathlib.Core.Path.{◌≡◌, refl, sym, ap, ◌∙◌}
use mathlib.Core.Bool.{Bool, true, false, ◌||◌}
use mathlib.Core.List.{List}
use native.Mathlib.Omega.{arith}
use borrow.Author.Tests.{eqb-true, ne_eqb}
use lib.Count.{count_trailing_zeros}
use lib.ListN.{length, take, drop, get_or}
use Rattle.lexer.specs.declared.scan.Class.{Class}
use Rattle.lexer.specs.declared.scan.Class.TheVariants.{SemiColon}
use Rattle.lexer.specs.Bytes.{class_of, is_letter, is_digit, in_name, in_number}
use Rattle.lexer.specs.Run.{past}
use Rattle.lexer.specs.Eight.{is_blank, is_gap, Packed, Marks}
use Rattle.lexer.specs.declared.Kind.{Kind}
use Rattle.lexer.specs.Lex.{from, lex_from, next_line, token}
use Rattle.lexer.proofs.EightRuns.{here}
use Rattle.lexer.proofs.Laws.{At, first, at_letter, at_space, at_digit, at_semicolon, at_newline, at_blanks}
use Rattle.lexer.proofs.Classes.{letters, digits}

-- the first test of an `|` whose second fails
either : (a b : Bool) → a || b ≡ true → b ≡ false → a ≡ true
either true b h e = refl
either false b h e = sym e ∙ h

module _ (s : List ℕ) (at line : ℕ) (h : at < length s) where
  pub past_space : is_gap (get_or s at 0) ≡ true → (get_or s at 0 ≡ 10 → ⊥) → from s at line ≡ from s (at + 1) line
  unfolding class_of
  past_space t f =
      let e : get_or s at 0 ≡ 32 = eqb-true _ 32 (either _ _ t (ne_eqb _ 10 f)) in
      at_space (record { inside = h; class = rw e })

  pub past_newline : (i n : ℕ) → get_or s at 0 ≡ 10 → past is_blank s i ≡ past is_blank s (at + 1) → n ≡ next_line line → from s at line ≡ from s i n
  unfolding class_of
  past_newline i n e p q = at_newline (record { inside = h; class = rw e }) n q ∙ at_blanks s (at + 1) i n p

-- the answers from the place `at` and the line given on are those from the place i and the line n on, where nine bytes are left
pub record Near (s : List ℕ) (at line i n : ℕ) : Type 0 where
  pub left : i + 9 ≤ length s
  pub same : from s at line ≡ from s i n

module _ {s : List ℕ} {at line i n : ℕ} (a : Near s at line i n) where
  there : (k : Class) → k ≡ class_of (get_or s i 0) → At s i n k
  there k q = record { inside = omega (arith, a.left); class = sym q }

  pub near_semicolon : get_or s i 0 ≡ 59 → token Kind.SemiColon i (i + 1) n ≡ lex_from s at line
  unfolding class_of
  near_semicolon q = first s at line _ _ (a.same ∙ at_semicolon (there SemiColon (rw q)))

  -- the run behind the first byte ends at the first mark m on the eight bytes w, before which stand k
  module _ (w m k : ℕ) (b : Packed (take 8 (drop (i + 1) s)) w) (some : m ≡ 0 → ⊥) (q : k ≡ count_trailing_zeros 64 m / 8) where
    ends : (p : ℕ → Bool) → Marks p w m → i + 1 + k ≡ past p s (i + 1)
    ends p f = ap (λ j. i + 1 + j) q ∙ here p s (i + 1) w m b f some

    pub near_name : is_letter (get_or s i 0) ≡ true → Marks in_name w m → token Kind.Name i (i + 1 + k) n ≡ lex_from s at line
    near_name l f = first s at line _ _ (a.same ∙ at_letter (there _ (letters _ l)) _ (ends in_name f))

    pub near_number : is_digit (get_or s i 0) ≡ true → Marks in_number w m → token Kind.Number i (i + 1 + k) n ≡ lex_from s at line
    near_number d f = first s at line _ _ (a.same ∙ at_digit (there _ (digits _ d)) _ (ends in_number f))
