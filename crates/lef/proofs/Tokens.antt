-- The token that is held first is the first token as a caller is told of it: both go by the screen and then by the lexer's answer.
use Prim.Native.Nat.{ℕ}
use mathlib.Core.Path.{◌≡◌, refl}
use mathlib.Core.List.{List}
use Rattle.std.specs.Prelude.{Ok, Err, ⊤}
use Rattle.refusal.specs.declared.Refusal.{Refusal}
use Rattle.lexer.specs.declared.Lexed.{Lexed}
use Rattle.lexer.specs.declared.Lexed.TheVariants.{Found, End, Bad}
use Rattle.lexer.specs.Screen.{screened}
use Rattle.lexer.specs.Lex.{lex_from}
use Rattle.lexer.specs.Numbers.{refused_as}
use Rattle.lexer.specs.Answer.{numbers, told, first_token}
use Rattle.parser.specs.Code.{held_next}
use Rattle.lef.specs.Border.{held_numbers, token_numbers}

module _ (s : List ℕ) (place : ℕ) where
  next : (x : Lexed) → held_numbers (held_next s x) ≡ numbers s (told x)
  next (Found t) = refl
  next (End n) = refl
  next (Bad i n) = refl

  pub held : (u : ⊤) → screened s ≡ Ok u → held_numbers (held_next s (lex_from s place 1)) ≡ token_numbers s place
  unfolding first_token
  held u v = rw (v, first_token) (next (lex_from s place 1))

  pub stopped : (r : Refusal) → screened s ≡ Err r → refused_as r ≡ token_numbers s place
  unfolding first_token
  stopped r v = rw (v, first_token) refl
