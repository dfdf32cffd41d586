-- Worked examples of an index, each computed from the definitions.
use Rattle.std.specs.Prelude.{ℕ, ◌≡◌, refl, List, [], ◌∷◌, ◌++◌, Some, None, Ok}
use Rattle.text.specs.Text.{bytes}
use Rattle.refusal.specs.Table.{refused}
use Rattle.little.specs.Little.{little, number}
use Rattle.rowfile.specs.Rows.{front, joined}
use Rattle.record.specs.declared.Record.{Record}
use Rattle.record.specs.Bytes.{encoded as encoded_record, decoded as decoded_record}
use Rattle.record.specs.Kinds.{SITE, MACRO, MACRO_SITE, PIN}
use Rattle.record.specs.Made.{named, library}
use Rattle.file.specs.File.{encoded_all as bytes_of}
use Rattle.lookup.specs.Name.{part}
use Rattle.grammar.specs.Reading.{Reading, records}
use Rattle.verdict.specs.Verdict.{among, first, wrong, lacks, verdict}
use Rattle.verdict.specs.Verdict.{same as same_record}
use Rattle.ordered.specs.Order.{insert, sorted}
use Rattle.entry.specs.declared.Entry.{Entry}
use Rattle.entry.specs.Entries.{entry, encoded, decoded, encoded_all}
use Rattle.entry.specs.Order.{ahead, alike, before}
use Rattle.index.specs.Index.{entered, entries, index_of}
use Rattle.index.specs.Queries.{query, held}
use Rattle.index.specs.Queries.{decoded as decoded_query}
use Rattle.index.specs.Many.{answers, asked, answered}
use Rattle.index.specs.Answers.{built, same, differ, compared, consulted, bears, least, no_place, sought, found}

-- names by their places: a at 0, ab at 2, A;B at 5, b at 9
abbrev text : List ℕ
text = bytes "a ab A;B b"

-- a SITE block b, and a MACRO ab with its SITE b and four pins
abbrev given : List Record
given =
    named SITE 10 library 9 1 ∷ named MACRO 20 library 2 2 ∷ named MACRO_SITE 30 20 9 1 ∷ named PIN 40 20 2 2
    ∷ named PIN 50 20 0 1 ∷ named PIN 60 20 5 3 ∷ named PIN 70 20 0 1 ∷ []

abbrev site : Entry
site = entry library 9 1 10

abbrev macro : Entry
macro = entry library 2 2 20

abbrev ab : Entry
ab = entry 20 2 2 40

abbrev a : Entry
a = entry 20 0 1 50

abbrev again : Entry
again = entry 20 0 1 70

abbrev bus : Entry
bus = entry 20 5 3 60

pub record IndexSamples : Type 0 where
  pub in_their_order : entries given ≡ site ∷ macro ∷ ab ∷ a ∷ bus ∷ again ∷ []
  pub in_order : index_of text given ≡ bus ∷ a ∷ again ∷ ab ∷ macro ∷ site ∷ []
  pub least_of_two : sought text 20 (bytes "a") (records given) ≡ 50
  pub of_the_library : sought text library (bytes "b") (records given) ≡ 10
  pub macro_site : sought text 20 (bytes "b") (records given) ≡ no_place
  pub other_case : sought text 20 (bytes "AB") (records given) ≡ no_place
  pub owner_too_great : sought text 4294967316 (bytes "a") (records given) ≡ no_place

pub samples : IndexSamples
unfolding entered entries insert sorted before ahead alike part bears least
samples = record {
  in_their_order = refl;
  in_order = refl;
  least_of_two = refl;
  of_the_library = refl;
  macro_site = refl;
  other_case = refl;
  owner_too_great = refl;
}

-- the SITE block and the MACRO with one pin, and a file of them in another order
abbrev three : Reading
three = records (named SITE 10 library 9 1 ∷ named MACRO 20 library 2 2 ∷ named PIN 40 20 2 2 ∷ [])

abbrev file : List ℕ
file = bytes_of (named PIN 40 20 2 2 ∷ named MACRO 20 library 2 2 ∷ named SITE 10 library 9 1 ∷ [])

-- a file with a record twice
abbrev double : List ℕ
double = bytes_of (named SITE 10 library 9 1 ∷ named SITE 10 library 9 1 ∷ [])

abbrev index : List ℕ
index = encoded_all (ab ∷ macro ∷ site ∷ [])

pub record CheckSamples : Type 0 where
  pub the_one : consulted text three file index ≡ refused 0 0 0
  pub swapped : consulted text three file (encoded_all (ab ∷ site ∷ macro ∷ [])) ≡ refused 16 1 0
  pub one_lacking : consulted text three file (encoded_all (ab ∷ macro ∷ [])) ≡ refused 16 2 0
  pub one_too_many : consulted text three file (encoded_all (ab ∷ macro ∷ site ∷ site ∷ [])) ≡ refused 16 3 0
  pub index_before_14 : consulted text three double (0 ∷ 0 ∷ []) ≡ refused 13 2 0
  pub room : built text three file 3 ≡ refused 0 3 0
  pub no_room : built text three file 2 ≡ refused 11 3 0
  pub there : found text three file index library (bytes "ab") ≡ Ok (Some 20)
  pub nowhere : found text three file index library (bytes "a") ≡ Ok None

pub checks : CheckSamples
unfolding entered entries insert sorted before ahead alike part bears least found same differ compared encoded decoded encoded_record decoded_record front joined little number same_record among first wrong lacks verdict
checks = record {
  the_one = refl;
  swapped = refl;
  one_lacking = refl;
  one_too_many = refl;
  index_before_14 = refl;
  room = refl;
  no_room = refl;
  there = refl;
  nowhere = refl;
}

-- MANY LOOK-UPS: queries on a block of names, ab at 0, b at 3

abbrev names : List ℕ
names = bytes "abxb"

abbrev asking : ℕ → ℕ → ℕ → List ℕ
asking owner start len = little 4 owner ++ little 4 start ++ little 4 len

abbrev queries : List ℕ
queries = asking library 0 2 ++ asking 20 0 2 ++ asking library 3 1 ++ asking library 3 2 ++ asking library 4294967295 1

pub record ManySamples : Type 0 where
  pub as_bytes : held (asking 20 0 2) ≡ query 20 0 2 ∷ []
  pub in_turn : answers text three file index names queries ≡ 20 ∷ 40 ∷ 10 ∷ no_place ∷ no_place ∷ []
  pub none : asked text three file index [] 0 ≡ refused 0 0 0
  pub all : asked text three file index queries 5 ≡ refused 0 5 0
  pub one_short : asked text three file index queries 4 ≡ refused 11 5 0
  pub queries_before_14 : asked text three double index (0 ∷ 0 ∷ []) 0 ≡ refused 13 2 0
  pub index_before_queries : asked text three double (0 ∷ []) (0 ∷ 0 ∷ []) 0 ≡ refused 13 1 0
  pub index_before_room : asked text three file [] queries 4 ≡ refused 16 0 0
  pub rest_kept : answered text three file index names (asking 20 0 2) (7 ∷ 7 ∷ 7 ∷ 7 ∷ 7 ∷ []) ≡ 40 ∷ 0 ∷ 0 ∷ 0 ∷ 7 ∷ []

pub many : ManySamples
unfolding entered entries insert sorted before ahead alike part bears least found same differ compared encoded decoded encoded_record decoded_record front joined little number same_record among first wrong lacks verdict decoded_query answered
many = record {
  as_bytes = refl;
  in_turn = refl;
  none = refl;
  all = refl;
  one_short = refl;
  queries_before_14 = refl;
  index_before_queries = refl;
  index_before_room = refl;
  rest_kept = refl;
}
