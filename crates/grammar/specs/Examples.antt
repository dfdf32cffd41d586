-- Worked examples of the rules, each computed from the definition. The starred ones stand in crates/verdict, with those on checking.
use Rattle.std.specs.Prelude.{◌≡◌, refl, [], ◌∷◌}
use Rattle.text.specs.Text.{bytes}
use Rattle.refusal.specs.Table.{refused as refusal}
use Rattle.record.specs.Made.{made, library}
use Rattle.lexer.specs.Bytes.{class_of}
use Rattle.lexer.specs.Run.{run}
use Rattle.lexer.specs.Lex.{answers, from, first_answer}
use Rattle.lexer.specs.Screen.{screened}
use Rattle.word.specs.Words.{keys, values, words, raised, upper, same, first_where, word_of, is_key}
use Rattle.word.specs.Codes.{kind_values, values_in, values_of, place_of, code_of}
use Rattle.grammar.specs.Tokens.{next, expect}
use Rattle.grammar.specs.Engine.{get_key, expect_key, expect_keyword, expect_ident, parse_number, parse_enum, begins, parse_second, empty, member, item, items}
use Rattle.grammar.specs.Turns.{without, act_for, perform, peek_key, step, turn, turns}
use Rattle.grammar.specs.Reading.{records, refusal_of, read_ahead, reading}

-- without a star: two bytes in quotes are taken; and a version, a site without its size and a byte that starts no token are refused
pub record Worked : Type 0 where
  pub two_bytes : reading (bytes "BUSBITCHARS \"[]\" ; END LIBRARY") ≡ records (made 2 0 0 library 13 2 0 0 ∷ [])
  pub no_version : reading (bytes "VERSION 5.9 ;") ≡ refusal_of (refusal 6 13 1)
  pub no_size : reading (bytes "SITE s\nCLASS CORE ;\nEND s") ≡ refusal_of (refusal 10 25 3)
  pub no_token : reading (bytes "UNITS\n@") ≡ refusal_of (refusal 3 6 2)

pub worked : Worked
unfolding class_of run answers from first_answer screened keys values words raised upper same first_where word_of is_key kind_values values_in values_of place_of code_of next expect get_key expect_key expect_keyword expect_ident parse_number parse_enum begins parse_second empty member item items without act_for perform peek_key step turn turns read_ahead reading
worked = record { two_bytes = refl; no_version = refl; no_size = refl; no_token = refl }

-- the site of the listing
pub listed : reading (bytes "SITE s\nCLASS CORE ;\nSIZE 1.5 BY 2 ;\nEND s\nEND LIBRARY\n")
    ≡ records (made 8 0 0 library 5 1 0 0 ∷ made 9 2 7 0 0 0 0 0 ∷ made 12 0 20 0 0 0 1500000 2000000 ∷ [])
unfolding class_of run answers from first_answer screened keys values words raised upper same first_where word_of is_key kind_values values_in values_of place_of code_of next expect get_key expect_key expect_keyword expect_ident parse_number parse_enum begins parse_second empty member item items without act_for perform peek_key step turn turns read_ahead reading
listed = refl
