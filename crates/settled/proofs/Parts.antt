-- The calls on tokens, numerals, words, records' and entries' bytes, and numbers in bytes: each answer and each buffer is equated with a definition.
use mathlib.Core.Path.{refl}
use Rattle.settled.specs.Settled.{Settles}
use Rattle.settled.proofs.Laws.{same}
use Rattle.lexer.specs.contracts.screen as of-screen
use Rattle.lexer.proofs.screen.Reads as of-screen-says
use Rattle.lexer.specs.contracts.first_token as of-first-token
use Rattle.lexer.proofs.first_token.Reads as of-first-token-says
use Rattle.lexer.specs.contracts.lex as of-lex
use Rattle.lexer.proofs.lex.Reads as of-lex-says
use Rattle.numeral.specs.contracts.numeral as of-numeral
use Rattle.numeral.proofs.numeral.Reads as of-numeral-says
use Rattle.numeral.specs.contracts.stored as of-stored
use Rattle.numeral.proofs.stored.Reads as of-stored-says
use Rattle.numeral.specs.contracts.value_of as of-value-of
use Rattle.numeral.proofs.value_of.Reads as of-value-of-says
use Rattle.numeral.specs.contracts.width as of_width
use Rattle.numeral.proofs.width.Reads as of-width-says
use Rattle.numeral.specs.contracts.put as of-put-numeral
use Rattle.numeral.proofs.put.Reads as of-put-numeral-says
use Rattle.word.specs.contracts.word_of as of-word-of
use Rattle.word.proofs.word_of.Reads as of-word-of-says
use Rattle.word.specs.contracts.is_key as of-is-key
use Rattle.word.proofs.is_key.Reads as of-is-key-says
use Rattle.word.specs.contracts.codes.code_of as of-code-of
use Rattle.word.proofs.codes.code_of.Reads as of-code-of-says
use Rattle.word.specs.contracts.codes.first_word as of-first-word
use Rattle.word.proofs.codes.first_word.Reads as of-first-word-says
use Rattle.word.specs.contracts.codes.second_word as of-second-word
use Rattle.word.proofs.codes.second_word.Reads as of-second-word-says
use Rattle.word.specs.contracts.spelling.count as of-count
use Rattle.word.proofs.spelling.count.Reads as of-count-says
use Rattle.word.specs.contracts.spelling.eight as of-eight
use Rattle.word.proofs.spelling.eight.Reads as of-eight-says
use Rattle.file.specs.contracts.bytes as of-bytes
use Rattle.file.proofs.bytes.Reads as of-bytes-says
use Rattle.file.specs.contracts.put as of-put-record
use Rattle.file.proofs.put.Reads as of-put-record-says
use Rattle.file.specs.contracts.read as of-read-record
use Rattle.file.proofs.read.Reads as of-read-record-says
use Rattle.little.specs.contracts.number as of_number
use Rattle.little.proofs.number.Reads as of-number-says
use Rattle.little.specs.contracts.four as of-four-bytes
use Rattle.little.proofs.four.Reads as of-four-bytes-says
use Rattle.little.specs.contracts.eight as of-eight-bytes
use Rattle.little.proofs.eight.Reads as of-eight-bytes-says
use Rattle.file.specs.contracts.at as of-at-record
use Rattle.file.proofs.at.Reads as of-at-record-says
use Rattle.little.specs.contracts.word32 as of-word32
use Rattle.little.proofs.word32.Reads as of-word32-says
use Rattle.little.specs.contracts.word64 as of-word64
use Rattle.little.proofs.word64.Reads as of-word64-says
use Rattle.little.specs.contracts.lay as of-lay
use Rattle.little.proofs.lay.Reads as of-lay-says
use Rattle.rowfile.specs.contracts.put as of-put-row
use Rattle.rowfile.proofs.put.Reads as of-put-row-says
use Rattle.rowfile.specs.contracts.swap as of-swap
use Rattle.rowfile.proofs.swap.Reads as of-swap-says
use Rattle.entry.specs.contracts.bytes as of-bytes-entry
use Rattle.entry.proofs.bytes.Reads as of-bytes-entry-says
use Rattle.entry.specs.contracts.put as of-put-entry
use Rattle.entry.proofs.put.Reads as of-put-entry-says
use Rattle.entry.specs.contracts.read as of-read-entry
use Rattle.entry.proofs.read.Reads as of-read-entry-says
use Rattle.entry.specs.contracts.order.alike as of-alike
use Rattle.entry.proofs.order.alike.Reads as of-alike-says
use Rattle.entry.specs.contracts.order.before as of-before
use Rattle.entry.proofs.order.before.Reads as of-before-says
use Rattle.entry.specs.contracts.order.precedes as of-precedes
use Rattle.entry.proofs.order.precedes.Reads as of-precedes-says

pub screen : Settles of-screen.ended of-screen-says.Learnt
screen κs i a b v w p q = (same p q, refl)

pub first_token : Settles of-first-token.ended of-first-token-says.Learnt
first_token κs i a b v w p q = (same p q, refl)

pub lex : Settles of-lex.ended of-lex-says.Learnt
lex κs i a b v w p q = (same p q, refl)

pub numeral : Settles of-numeral.ended of-numeral-says.Learnt
numeral κs i a b v w p q = (same p q, refl)

pub stored : Settles of-stored.ended of-stored-says.Learnt
stored κs i a b v w p q = (same p q, refl)

pub value_of : Settles of-value-of.ended of-value-of-says.Learnt
value_of κs i a b v w p q = (same p q, refl)

pub width : Settles of_width.ended of-width-says.Learnt
width κs i a b v w p q = (same p q, refl)

pub put_numeral : Settles of-put-numeral.ended of-put-numeral-says.Learnt
put_numeral κs i a b v w p q = (same p.0 q.0, λ i. (tt, (same p.1 q.1 i, (tt, tt))))

pub word_of : Settles of-word-of.ended of-word-of-says.Learnt
word_of κs i a b v w p q = (same p q, refl)

pub is_key : Settles of-is-key.ended of-is-key-says.Learnt
is_key κs i a b v w p q = (same p q, refl)

pub code_of : Settles of-code-of.ended of-code-of-says.Learnt
code_of κs i a b v w p q = (same p q, refl)

pub first_word : Settles of-first-word.ended of-first-word-says.Learnt
first_word κs i a b v w p q = (same p q, refl)

pub second_word : Settles of-second-word.ended of-second-word-says.Learnt
second_word κs i a b v w p q = (same p q, refl)

pub count : Settles of-count.ended of-count-says.Learnt
count κs i a b v w p q = (same p q, refl)

pub eight : Settles of-eight.ended of-eight-says.Learnt
eight κs i a b v w p q = (same p q, refl)

pub bytes : Settles of-bytes.ended of-bytes-says.Learnt
bytes κs i a b v w p q = (same p q, refl)

pub put_record : Settles of-put-record.ended of-put-record-says.Learnt
put_record κs i a b v w p q = (same p.0 q.0, λ i. (tt, (same p.1 q.1 i, (tt, tt))))

pub read_record : Settles of-read-record.ended of-read-record-says.Learnt
read_record κs i a b v w p q = (same p q, refl)

pub number : Settles of_number.ended of-number-says.Learnt
number κs i a b v w p q = (same p.0 q.0, refl)

pub lay : Settles of-lay.ended of-lay-says.Learnt
lay κs i a b v w p q = (refl, λ i. (same p q i, (tt, (tt, (tt, tt)))))

pub at_record : Settles of-at-record.ended of-at-record-says.Learnt
at_record κs i a b v w p q = (same p q, refl)

pub four_bytes : Settles of-four-bytes.ended of-four-bytes-says.Learnt
four_bytes κs i a b v w p q = (same p.0 q.0, refl)

pub eight_bytes : Settles of-eight-bytes.ended of-eight-bytes-says.Learnt
eight_bytes κs i a b v w p q = (same p q, refl)

pub word32 : Settles of-word32.ended of-word32-says.Learnt
word32 κs i a b v w p q = (same p.0 q.0, refl)

pub word64 : Settles of-word64.ended of-word64-says.Learnt
word64 κs i a b v w p q = (same p q, refl)

pub put_row : Settles of-put-row.ended of-put-row-says.Learnt
put_row κs i a b v w p q = (same p.0 q.0, λ i. (tt, (same p.1 q.1 i, (tt, tt))))

pub swap : Settles of-swap.ended of-swap-says.Learnt
swap κs i a b v w p q = (refl, λ i. (same p q i, (tt, (tt, (tt, tt)))))

pub bytes_entry : Settles of-bytes-entry.ended of-bytes-entry-says.Learnt
bytes_entry κs i a b v w p q = (same p q, refl)

pub put_entry : Settles of-put-entry.ended of-put-entry-says.Learnt
put_entry κs i a b v w p q = (same p.0 q.0, λ i. (tt, (same p.1 q.1 i, (tt, tt))))

pub read_entry : Settles of-read-entry.ended of-read-entry-says.Learnt
read_entry κs i a b v w p q = (same p.0 q.0, refl)

pub alike : Settles of-alike.ended of-alike-says.Learnt
alike κs i a b v w p q = (same p q, refl)

pub before : Settles of-before.ended of-before-says.Learnt
before κs i a b v w p q = (same p q, refl)

pub precedes : Settles of-precedes.ended of-precedes-says.Learnt
precedes κs i a b v w p q = (same p q, refl)
