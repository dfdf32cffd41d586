-- Inner machinery, which nobody has to believe: what the code's values stand for in the definition.
-- The images `as_taken`, `as_number` and `as_word` forget nothing of an answer: a token is read back from `tok_of` (kind, start, stop and line
-- stand in it), and a refusal from `refuse`. So a contract that equates one settles the answer; `as_peeked` does where it is equated for every k.
use Rattle.std.specs.Prelude.{ℕ, ◌-◌, ◌≡◌, cond, List, [], map, eqb, length, take, drop, Result, Ok, Err}
use Rattle.refusal.specs.declared.Refusal.{Refusal}
use Rattle.refusal.specs.Table.{refused as refusal}
use Rattle.lexer.specs.declared.Token.{Token}
use Rattle.lexer.specs.declared.Lexed.{Lexed}
use Rattle.lexer.specs.declared.Lexed.TheVariants.{Found, End, Bad}
use Rattle.lexer.specs.declared.Kind.{Kind}
use Rattle.lexer.specs.Kinds.{number_of}
use Rattle.lexer.specs.Lex.{from}
use Rattle.lexer.specs.Numbers.{bad_byte}
use Rattle.grammar.specs.Tokens.{Tok, Ahead, Answer, ok, refused, then, end, next_token}
use Rattle.grammar.specs.Engine.{get_name}
use Rattle.word.specs.Words.{word_of}
use Rattle.grammar.specs.Turns as T
use Rattle.grammar.specs.Reading.{Mark, tok}

-- the bytes of a token
abbrev pub bytes_of : List ℕ → Token → List ℕ
bytes_of s t = take (t.stop - t.start) (drop t.start s)

-- a token held by the code
abbrev pub tok_of : List ℕ → Token → Tok ℕ Mark
tok_of s t = record { kind = number_of t.kind; bytes = bytes_of s t; at = t.start; mark = record { place = t.stop; line = t.line } }

-- what is ahead of the code that holds the token t: the text from its stop on, and nothing past the end
unfoldable pub rest_of : List ℕ → Token → List (Tok ℕ Mark)
rest_of s t = cond (eqb (number_of t.kind) end) [] (map (tok s) (from s t.stop t.line))

abbrev pub ahead_of : List ℕ → Token → Ahead ℕ Mark
ahead_of s t = record { held = tok_of s t; rest = rest_of s t }

-- taking the token h, which a has held, has t held next
abbrev pub Took : List ℕ → Token → Token → Ahead ℕ Mark → Type 0
Took s h t a = next_token a ≡ ok (tok_of s h) (ahead_of s t)

-- a complaint while the token t is held
abbrev pub complaint : ℕ → Token → Refusal
complaint n t = refusal n t.stop t.line

abbrev pub refuse : {A : Type 0} → Refusal → Answer ℕ Mark A
refuse r = refused r.number (record { place = r.place; line = r.line })

-- the end of the text as a token, with its line
abbrev pub end_of : List ℕ → ℕ → Token
end_of s n = record { start = length s; stop = length s; line = n; kind = Kind.End }

-- the token that the lexer's answer has the code hold, or refusal 3
abbrev pub held_next : List ℕ → Lexed → Result Token Refusal
held_next s (Found t) = Ok t
held_next s (End n) = Ok (end_of s n)
held_next s (Bad i n) = Err (bad_byte i n)

-- the takers' answers; h is the token that was taken
abbrev pub as_taken : List ℕ → Token → Result Token Refusal → Answer ℕ Mark (Tok ℕ Mark)
as_taken s h (Ok t) = ok (tok_of s h) (ahead_of s t)
as_taken s h (Err r) = refuse r

abbrev pub as_number : List ℕ → Result (ℕ × Token) Refusal → Answer ℕ Mark ℕ
as_number s (Ok (v, t)) = ok v (ahead_of s t)
as_number s (Err r) = refuse r

-- the number of a word, or the code of a value
abbrev pub as_word : List ℕ → Result (ℕ × Token) Refusal → Answer ℕ Mark ℕ
as_word = as_number

-- the key word that was looked at, and what follows from it
abbrev pub as_peeked : {R : Type 0} → Result ℕ Refusal → (ℕ → T.Step ℕ Mark R) → T.Step ℕ Mark R
as_peeked (Ok w) k = k w
as_peeked (Err r) k = T.halts r.number (record { place = r.place; line = r.line })

-- the number of the word that a name spells, or 0
abbrev pub get_word : {A M : Type 0} → Ahead A M → Answer A M ℕ
get_word a = then (get_name a) (λ t b. ok (word_of t.bytes) b)
