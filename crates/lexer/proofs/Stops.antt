-- A token's line is that of its end too: no newline stands in a token outside quotes.
use Prim.Native.Nat.{ℕ, ◌+◌, ◌-◌, ◌^◌, ◌≤◌, ◌<◌}
use mathlib.Core.Path.{◌≡◌, ap}
use mathlib.Core.Logic.{⊎_elim}
use mathlib.Core.Bool.{true, false, not, or-true, and-false}
use mathlib.Core.List.Memᴰ
use mathlib.Core.List.{List, [], ◌∷◌, Memᴰ}
use native.Mathlib.Omega.{arith}
use borrow.Author.Tests.{le-leb, lt-ltb, eq-eqb}
use lib.ListN.{length}
use Rattle.lexer.specs.declared.Token.{Token}
use Rattle.lexer.specs.declared.Lexed.{Lexed}
use Rattle.lexer.specs.declared.Lexed.TheVariants.{Found}
use Rattle.lexer.specs.Kinds.{string_literal, number_of}
use Rattle.lexer.specs.Lex.{from}
use Rattle.lexer.specs.Lines.{quotes, quoted, outside_at, outside}
use Rattle.lexer.proofs.Counts.{count_split, count_none}
use Rattle.lexer.proofs.First.{first_answer, Plain}
use Rattle.lexer.proofs.Whole.{each}
use Rattle.lexer.proofs.Places.{within_all}
use Rattle.lexer.proofs.Lines.{line_all}

-- no newline stands in any token that is no string literal
plain_all : (s : List ℕ) (at n : ℕ) (r : Lexed) → Memᴰ r (from s at n) → Plain s r
plain_all s = each s (λ i n r. Plain s r) (λ i n. (first_answer s i n).plain) (λ i n t e r m q. q)

-- what one of the answers quotes is quoted
quoted_by : (rs : List Lexed) (r : Lexed) (k : ℕ) → Memᴰ r rs → quotes r k ≡ true → quoted rs k ≡ true
unfolding quoted
quoted_by [] r k m h = absurd (Memᴰ.not-nil m)
quoted_by (a ∷ rs) r k m h = ⊎_elim (λ e. rw (← e, h)) (λ g. rw (quoted_by rs r k g h) (or-true (quotes a k))) (Memᴰ.cases_cons m)

module _ (s : List ℕ) (at n : ℕ) (t : Token) (m : Memᴰ (Found t) (from s at n)) where
  none_outside : (k : ℕ) → t.start ≤ k → k < t.stop → outside_at s (from s at n) k ≡ false
  none_outside k g l =
      ⊎_elim
      (λ q. let e : number_of t.kind ≡ string_literal = ap number_of q in rw (quoted_by (from s at n) (Found t) k m (rw (le-leb t.start k g, lt-ltb k t.stop l, eq-eqb _ _ e))))
      (λ u. rw (u k g l) (and-false (not (quoted (from s at n) k))))
      (plain_all s at n (Found t) m)

  -- the newlines outside quotes up to a token's end are those up to its start
  pub outside_stop : outside s (from s at n) at t.stop ≡ outside s (from s at n) at t.start
  outside_stop =
      let w = within_all s at n (Found t) m in
      let f = outside_at s (from s at n) in
      omega (arith, count_split f at t.start t.stop w.after (omega arith), count_none f t.start t.stop none_outside)

  -- EVERY TOKEN: its line is n and the newlines from the place given to its end that lie in no string literal
  pub line_stop : n + (length s - at) < 2 ^ 64 → t.line ≡ n + outside s (from s at n) at t.stop
  line_stop h = omega (arith, outside_stop, line_all s at n (Found t) m h)
