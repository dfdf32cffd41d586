-- The refusals by number, with the place and the line that each gives. Line, for 3 to 10, is a line of the text; else 0.
use Rattle.std.specs.Prelude.{ℕ, cond, eqb, Result, Ok, Err, ⊤}
use Rattle.refusal.specs.declared.Refusal.{Refusal}

-- done; place: the count of rows or bytes that are written
abbrev pub done : ℕ
done = 0

-- text over 16,777,216 bytes; place 0
abbrev pub too_long : ℕ
too_long = 1

-- a byte above 127; place: the first such byte
abbrev pub not_ascii : ℕ
not_ascii = 2

-- a byte starts no token; place: that byte
abbrev pub no_token : ℕ
no_token = 3

-- the token is of the wrong kind, or is the end; from here to 10 the place is the end of the token held ahead, or the text's length
abbrev pub wrong_kind : ℕ
wrong_kind = 4

-- a word is no key word here
abbrev pub not_key : ℕ
not_key = 5

-- a value is not allowed
abbrev pub not_allowed : ℕ
not_allowed = 6

-- another word is required
abbrev pub another_word : ℕ
another_word = 7

-- known, and not supported
abbrev pub not_supported : ℕ
not_supported = 8

-- a numeral is none, or cannot be held
abbrev pub not_numeral : ℕ
not_numeral = 9

-- a SITE lacks CLASS or SIZE
abbrev pub site_lacks : ℕ
site_lacks = 10

-- a buffer of rows is too small, which are records, entries or answers; place: the rows needed
abbrev pub record_room : ℕ
record_room = 11

-- the text buffer is too small; place: the bytes needed
abbrev pub text_room : ℕ
text_room = 12

-- the bytes of a file are not a multiple of its row's, for records 36, for entries 16, for queries 12; place: their length
abbrev pub not_whole : ℕ
not_whole = 13

-- a record is foreign, or equal to an earlier one; place: its index
abbrev pub wrong_record : ℕ
wrong_record = 14

-- a record is lacking; place: its `at`
abbrev pub lacking : ℕ
lacking = 15

-- an index differs from the one that would be built; place: the first position at which they differ
abbrev pub index_differs : ℕ
index_differs = 16

abbrev pub refused : ℕ → ℕ → ℕ → Refusal
refused number place line = record { number = number; place = place; line = line }

-- what a call hands out of what comes back: `done` is `Ok` with its place, which is the count, and any other number is the error
abbrev pub outcome : Refusal → Result ℕ Refusal
outcome r = cond (eqb r.number done) (Ok r.place) (Err r)

-- the same of a call that writes nothing, whose place is 0 where it is done
abbrev pub judgement : Refusal → Result ⊤ Refusal
judgement r = cond (eqb r.number done) (Ok tt) (Err r)
