-- THE READING OF A TEXT: its records in order, or its refusal.
use Rattle.std.specs.Prelude.{ℕ, suc, ◌+◌, ◌-◌, cond, List, [], ◌∷◌, map, eqb, length, take, drop, Ok, Err}
use Rattle.refusal.specs.declared.Refusal.{Refusal}
use Rattle.refusal.specs.Table.{refused as refusal}
use Rattle.record.specs.declared.Record.{Record}
use Rattle.record.specs.Made.{made, library}
use Rattle.lexer.specs.declared.Lexed.{Lexed}
use Rattle.lexer.specs.declared.Lexed.TheVariants.{Found, End, Bad}
use Rattle.lexer.specs.Kinds.{number_of}
use Rattle.lexer.specs.Lex.{from}
use Rattle.lexer.specs.Screen.{screened}
use Rattle.grammar.specs.Tokens.{Tok, Ahead, end, bad}
use Rattle.grammar.specs.Grammar.{Library}
use Rattle.grammar.specs.Table.{body}
use Rattle.grammar.specs.Engine.{Maybe, none, some, Name, Rec, Frame}
use Rattle.grammar.specs.Turns.{State, state, Outcome, read, stopped, turns}

-- where a complaint is placed while a token is held: at its end, or at the text's end, on its line
pub record Mark : Type 0 where
  pub place : ℕ
  pub line : ℕ

abbrev pub tok : List ℕ → Lexed → Tok ℕ Mark
tok s (Found t) =
    record { kind = number_of t.kind; bytes = take (t.stop - t.start) (drop t.start s); at = t.start; mark = record { place = t.stop; line = t.line } }
tok s (End n) = record { kind = end; bytes = []; at = length s; mark = record { place = length s; line = n } }
tok s (Bad i n) = record { kind = bad; bytes = []; at = i; mark = record { place = i; line = n } }

-- the tokens of a text, of which there is one at least
abbrev pub ahead : List ℕ → List Lexed → Ahead ℕ Mark
ahead s [] = record { held = tok s (End 0); rest = [] }
ahead s (r ∷ rs) = record { held = tok s r; rest = map (tok s) rs }

-- a record as the file has it: `at`, owner and name start as places
abbrev pub owner_at : Maybe ℕ → ℕ
owner_at none = library
owner_at (some p) = p

abbrev pub name_at : Maybe (Name ℕ) → ℕ
name_at none = 0
name_at (some n) = n.at + n.skip

abbrev pub name_length : Maybe (Name ℕ) → ℕ
name_length none = 0
name_length (some n) = length n.bytes

abbrev pub filed : Rec ℕ → Record
filed r = made r.kind r.code r.at (owner_at r.owner) (name_at r.name) (name_length r.name) r.x r.y

-- the library, before any statement: version 5.8 holds
abbrev pub library_frame : Frame ℕ
library_frame = record { block = Library; at = none; label = []; lacks = [] }

abbrev pub start : State ℕ
start = state 5800000 (library_frame ∷ [])

-- the reading of what is ahead: a bad first byte is refused at once
unfoldable pub read_ahead : Ahead ℕ Mark → Outcome Mark (Rec ℕ)
read_ahead a = cond (eqb a.held.kind bad) (stopped 3 a.held.mark) (turns body (suc (length a.rest)) start a)

-- what reading gives: the records, or the refusal
pub data Reading : Type 0 where
  records : List Record → Reading
  refusal_of : Refusal → Reading

abbrev pub told : Outcome Mark (Rec ℕ) → Reading
told (read rs) = records (map filed rs)
told (stopped n m) = refusal_of (refusal n m.place m.line)

-- refusal 1, then 2, then the first of 3 to 10, or the records
unfoldable pub reading : List ℕ → Reading
reading s = elim (screened s) [
  | Err r ↦ refusal_of r
  | Ok clear ↦ told (read_ahead (ahead s (from s 0 1)))
]
