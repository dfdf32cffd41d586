-- THE STARRED EXAMPLES of the rules, on reading and on checking, as one table, each computed from the definition.
use Rattle.std.specs.Prelude.{ℕ, ◌≡◌, refl, List, [], ◌∷◌}
use Rattle.text.specs.Text.{bytes}
use Rattle.refusal.specs.Table.{refused as refusal}
use Rattle.rowfile.specs.Rows.{front, joined}
use Rattle.little.specs.Little.{little, number}
use Rattle.record.specs.declared.Record.{Record}
use Rattle.record.specs.Bytes.{encoded, decoded}
use Rattle.record.specs.Made.{made, library}
use Rattle.file.specs.File.{encoded_all}
use Rattle.lexer.specs.Bytes.{class_of}
use Rattle.lexer.specs.Run.{run}
use Rattle.lexer.specs.Lex.{answers, from, first_answer}
use Rattle.lexer.specs.Screen.{screened}
use Rattle.word.specs.Words.{keys, values, words, raised, upper, first_where, word_of, is_key}
use Rattle.word.specs.Words.{same as same_word}
use Rattle.word.specs.Codes.{kind_values, values_in, values_of, place_of, code_of}
use Rattle.grammar.specs.Tokens.{next, expect}
use Rattle.grammar.specs.Engine.{get_key, expect_key, expect_keyword, expect_ident, parse_number, parse_enum, begins, parse_second, empty, member, item, items}
use Rattle.grammar.specs.Turns.{without, act_for, perform, peek_key, step, turn, turns}
use Rattle.grammar.specs.Reading.{records, refusal_of, read_ahead, reading}
use Rattle.verdict.specs.Verdict.{same, among, first, wrong, lacks, verdict, checked}

-- the site of the listing, and its three records by their kinds
abbrev site : List ℕ
site = bytes "SITE s\nCLASS CORE ;\nSIZE 1.5 BY 2 ;\nEND s\nEND LIBRARY\n"

abbrev r8 : Record
r8 = made 8 0 0 library 5 1 0 0

abbrev r9 : Record
r9 = made 9 2 7 0 0 0 0 0

abbrev r12 : Record
r12 = made 12 0 20 0 0 0 1500000 2000000

-- eleven on reading, two on checking
pub record Starred : Type 0 where
  pub empty_text : reading (bytes "") ≡ refusal_of (refusal 4 0 1)
  pub nothing : reading (bytes "END LIBRARY") ≡ records []
  pub bad_after : reading (bytes "END LIBRARY @") ≡ refusal_of (refusal 3 12 1)
  pub bad_later : reading (bytes "END LIBRARY x @") ≡ records []
  pub open_string : reading (bytes "END LIBRARY \"a") ≡ records []
  pub no_semicolon : reading (bytes "END LIBRARY;") ≡ refusal_of (refusal 5 12 1)
  pub version_5_8 : reading (bytes "VERSION 5.8 ; END LIBRARY") ≡ records (made 1 0 0 library 0 0 5800000 0 ∷ [])
  pub version_5_9 : reading (bytes "VERSION 5.9 ; END LIBRARY") ≡ refusal_of (refusal 6 17 1)
  pub no_numeral : reading (bytes "VERSION - ;") ≡ refusal_of (refusal 9 11 1)
  pub three_bytes : reading (bytes "BUSBITCHARS \"[]x\" ;") ≡ refusal_of (refusal 6 19 1)
  pub sizeless : reading (bytes "SITE s CLASS CORE ; END s END LIBRARY") ≡ refusal_of (refusal 10 29 1)
  pub a_repeat : checked (reading site) (encoded_all (r8 ∷ r9 ∷ r9 ∷ [])) ≡ refusal 14 2 0
  pub a_lack : checked (reading site) (encoded_all (r8 ∷ r9 ∷ [])) ≡ refusal 15 20 0

pub starred : Starred
unfolding little number encoded decoded front joined class_of run answers from first_answer screened keys values words raised upper first_where word_of is_key same_word kind_values values_in values_of place_of code_of next expect get_key expect_key expect_keyword expect_ident parse_number parse_enum begins parse_second empty member item items without act_for perform peek_key step turn turns read_ahead reading same among first wrong lacks verdict
starred =
    record {
      empty_text = refl;
      nothing = refl;
      bad_after = refl;
      bad_later = refl;
      open_string = refl;
      no_semicolon = refl;
      version_5_8 = refl;
      version_5_9 = refl;
      no_numeral = refl;
      three_bytes = refl;
      sizeless = refl;
      a_repeat = refl;
      a_lack = refl;
    }

-- without a star: the order that the rules name, a file that is not whole, and a text that is refused before its file is
pub record Worked : Type 0 where
  pub another_order : checked (reading site) (encoded_all (r12 ∷ r8 ∷ r9 ∷ [])) ≡ refusal 0 0 0
  pub not_whole : checked (reading site) (0 ∷ encoded_all (r8 ∷ [])) ≡ refusal 13 37 0
  pub text_first : checked (reading (bytes "")) (0 ∷ []) ≡ refusal 4 0 1

pub worked : Worked
unfolding little number encoded decoded front joined class_of run answers from first_answer screened keys values words raised upper first_where word_of is_key same_word kind_values values_in values_of place_of code_of next expect get_key expect_key expect_keyword expect_ident parse_number parse_enum begins parse_second empty member item items without act_for perform peek_key step turn turns read_ahead reading same among first wrong lacks verdict
worked = record { another_order = refl; not_whole = refl; text_first = refl }
