-- What the line of an answer counts: the newlines before it that stand outside the string literals.
use Rattle.std.specs.Prelude.{ℕ, zero, suc, ◌+◌, ◌-◌, Bool, false, cond, not, ◌&&◌, ◌||◌, List, [], ◌∷◌, leb, ltb, eqb, get_or}
use Rattle.lexer.specs.declared.Lexed.{Lexed}
use Rattle.lexer.specs.declared.Lexed.TheVariants.{Found, End, Bad}
use Rattle.lexer.specs.Bytes.{is_newline}
use Rattle.lexer.specs.Kinds.{string_literal, number_of}

-- how many of the m places from `at` on satisfy p
unfoldable pub tally : (ℕ → Bool) → ℕ → ℕ → ℕ
tally p at zero = 0
tally p at (suc m) = cond (p at) 1 0 + tally p (at + 1) m

-- how many places at a or after it, and before e, satisfy p
abbrev pub count : (ℕ → Bool) → ℕ → ℕ → ℕ
count p a e = tally p a (e - a)

-- a newline stands at the place i of s
abbrev pub newline_at : List ℕ → ℕ → Bool
newline_at s i = is_newline (get_or s i 0)

-- how many newlines stand in s at a or after it, and before e
abbrev pub newlines : List ℕ → ℕ → ℕ → ℕ
newlines s a e = count (newline_at s) a e

-- the answer is a string literal, and the place i lies in it
abbrev pub quotes : Lexed → ℕ → Bool
quotes (Found t) i = leb t.start i && (ltb i t.stop && eqb (number_of t.kind) string_literal)
quotes (End n) i = false
quotes (Bad j n) i = false

-- the place i lies in a string literal of the answers
unfoldable pub quoted : List Lexed → ℕ → Bool
quoted [] i = false
quoted (r ∷ rs) i = quotes r i || quoted rs i

-- a newline stands at the place i of s, in no string literal of the answers
abbrev pub outside_at : List ℕ → List Lexed → ℕ → Bool
outside_at s rs i = not (quoted rs i) && newline_at s i

-- how many newlines stand in s at a or after it, and before e, in no string literal of the answers
abbrev pub outside : List ℕ → List Lexed → ℕ → ℕ → ℕ
outside s rs a e = count (outside_at s rs) a e
