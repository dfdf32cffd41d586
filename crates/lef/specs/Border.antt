-- THE NUMBERS THAT CROSS THE BORDER: what each call hands back for the bytes and numbers that it is given. The number of the refusal is
-- returned; every other number is written behind its pointer, 0 where it has no meaning, but an index is `no_index` there.
use Rattle.std.specs.Prelude.{ℕ, ◌+◌, cond, List, leb, length, Option, Some, None, Result, Ok, Err, ⊤}
use Rattle.refusal.specs.declared.Refusal.{Refusal}
use Rattle.refusal.specs.Table.{refused, done}
use Rattle.record.specs.declared.Record.{Record}
use Rattle.file.specs.File.{record_at}
use Rattle.lexer.specs.declared.Token.{Token}
use Rattle.lexer.specs.Kinds.{number_of}
use Rattle.lexer.specs.Numbers.{Numbers as Tokens, stands_as, refused_as}
use Rattle.lexer.specs.Answer as T
use Rattle.lexer.specs.Answer.{first_token}
use Rattle.lookup.specs.Force as F
use Rattle.lookup.specs.Force.{in_force}
use Rattle.lookup.specs.Chain as C
use Rattle.lookup.specs.Chain.{owners}
use Rattle.grammar.specs.Reading.{reading}
use Rattle.reader.specs.Answered.{room, answered, filled}
use Rattle.verdict.specs.Verdict.{checked}
use Rattle.render.specs.Written as W
use Rattle.entry.specs.Entries as E
use Rattle.index.specs.Answers as I
use Rattle.index.specs.Queries as Q
use Rattle.index.specs.Many as M
use Rattle.lef.specs.declared.told.Span.{Span}

-- what comes back of an answer: of what is done number 0, and the count as the place
abbrev pub numbered : Result ℕ Refusal → Refusal
numbered (Ok n) = refused done n 0
numbered (Err r) = r

-- a check writes nothing
abbrev pub unwritten : Result ⊤ Refusal → Result ℕ Refusal
unwritten (Ok u) = Ok 0
unwritten (Err r) = Err r

-- `lef_read`: number, place and line, and the record buffer as it is left
abbrev pub read_numbers : List ℕ → List ℕ → Refusal
read_numbers text records = answered (room records) (reading text)

abbrev pub read_buffer : List ℕ → List ℕ → List ℕ
read_buffer text records = filled records (reading text)

-- `lef_check`: number, place and line
abbrev pub check_numbers : List ℕ → List ℕ → Refusal
check_numbers text records = checked (reading text) records

-- `lef_write`: number, place and line, and the text buffer as it is left
abbrev pub write_numbers : List ℕ → List ℕ → List ℕ → Refusal
write_numbers text records out = W.written text records (length out)

abbrev pub write_buffer : List ℕ → List ℕ → List ℕ → List ℕ
write_buffer text records out = W.filled text records out

-- `lef_token`: refusal, place, line, kind, start and stop
abbrev pub token_numbers : List ℕ → ℕ → Tokens
token_numbers text place = T.numbers text (first_token text place)

-- the same of the token that is held first, of which the end is one of kind 0
abbrev pub held_numbers : Result Token Refusal → Tokens
held_numbers (Ok t) = stands_as 0 (number_of t.kind) t.start t.stop
held_numbers (Err r) = refused_as r

-- `lef_in_force`: refusal, place, line and index; no index is `no_index`, the largest number
abbrev pub force_numbers : List ℕ → ℕ → ℕ → ℕ → F.Numbers
force_numbers records owner kind code = F.numbers (in_force records owner kind code)

-- `lef_owners`: refusal, place, line and count
abbrev pub owners_numbers : List ℕ → ℕ → C.Numbers
owners_numbers records index = C.numbers (owners records index)

-- `lef_name`: where the name starts in the text, and how many bytes it has
abbrev pub span : ℕ → ℕ → Span
span start len = record { start = start; len = len }

-- a span that lies in a text of that size, and 0 and 0 where it reaches outside
unfoldable pub inside : ℕ → ℕ → ℕ → Span
inside size start len = cond (leb (start + len) size) (span start len) (span 0 0)

-- of the record that was found, and 0 and 0 where there is none
abbrev pub span_of : List ℕ → Option Record → Span
span_of text (Some r) = inside (length text) r.name r.len
span_of text None = span 0 0

abbrev pub name_span : List ℕ → List ℕ → ℕ → Span
name_span text records index = span_of text (record_at records index)

-- `lef_index`: number, place and line, and the buffer of the index as it is left
abbrev pub index_numbers : List ℕ → List ℕ → List ℕ → Refusal
index_numbers text records index = I.built text (reading text) records (E.count index)

abbrev pub index_buffer : List ℕ → List ℕ → List ℕ → List ℕ
index_buffer text records index = I.filled text (reading text) records index

-- `lef_index_check`: number, place and line
abbrev pub index_check_numbers : List ℕ → List ℕ → List ℕ → Refusal
index_check_numbers text records index = I.consulted text (reading text) records index

-- `lef_find`: refusal, place, line and `at`; no `at` is `no_place`, the largest number of 32 bits
abbrev pub find_numbers : List ℕ → List ℕ → List ℕ → ℕ → List ℕ → I.Numbers
find_numbers text records index owner name = I.numbers (I.found text (reading text) records index owner name)

-- `lef_find_many`: number, place and line, and the buffer of the answers as it is left
abbrev pub find_many_numbers : List ℕ → List ℕ → List ℕ → List ℕ → List ℕ → Refusal
find_many_numbers text records index queries answers = M.asked text (reading text) records index queries (Q.room answers)

abbrev pub find_many_buffer : List ℕ → List ℕ → List ℕ → List ℕ → List ℕ → List ℕ → List ℕ
find_many_buffer text records index names queries answers = M.answered text (reading text) records index names queries answers
