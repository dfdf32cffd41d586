-- Worked examples of writing, each computed from the definition.
use Rattle.std.specs.Prelude.{◌≡◌, refl, Bool, true, false, List, [], ◌∷◌, map, ℕ}
use Rattle.text.specs.Text.{bytes}
use Rattle.lexer.specs.Bytes.{class_of}
use Rattle.lexer.specs.Run.{run}
use Rattle.lexer.specs.Lex.{answers, from, first_answer}
use Rattle.lexer.specs.Screen.{screened}
use Rattle.numeral.specs.Shortest.{natural, fraction, shortest}
use Rattle.word.specs.Words.{keys, values, words, raised, upper, same, first_where, word_of, is_key}
use Rattle.word.specs.Codes.{kind_values, values_in, values_of, place_of, code_of}
use Rattle.word.specs.Spelling.{spelling, first_of, second_of}
use Rattle.grammar.specs.Tokens.{next, expect}
use Rattle.grammar.specs.Engine.{Maybe, none, some, get_key, expect_key, expect_keyword, expect_ident, parse_number, parse_enum, parse_second, empty, member, item, items}
use Rattle.grammar.specs.Engine as Engine
use Rattle.grammar.specs.Turns.{without, act_for, perform, peek_key, step, turn, turns}
use Rattle.grammar.specs.Reading.{Reading, records, refusal_of, read_ahead, reading}
use Rattle.render.specs.Pieces.{text}
use Rattle.render.specs.Spelt.{all, is_name, is_string, is_token, is_spelt}
use Rattle.render.specs.Plain.{Plain, index_in, aside}
use Rattle.render.specs.Says.{is_code, says, shows, any, omitted, says_all, holds, holds_all, gives, gives_all}
use Rattle.render.specs.Forms.{forms_of, row_forms, forms_in, of_code, is_of, form_for, begins, said_in, close_of, last_words}
use Rattle.render.specs.Lines.{spaced, indented, line, on_line, end_all, pieces, after, lines, render}
use Rattle.render.specs.Fit.{suits, admits, all_end, fit_from, indexed, is_fit}
use Rattle.render.specs.Layout.{on_owners_line, closes_with_end, Part, begins as begins_at, goes, ends, last, chain, ends_up_to, layout}

-- the written text of what a text reads as
abbrev rewritten : List ℕ → Reading → List ℕ
rewritten s (records rs) = render (aside s rs)
rewritten s (refusal_of r) = []

abbrev fitting : List ℕ → Reading → Bool
fitting s (records rs) = is_fit (aside s rs)
fitting s (refusal_of r) = false

abbrev again : List ℕ → List ℕ
again s = rewritten s (reading s)

abbrev fits : List ℕ → Bool
fits s = fitting s (reading s)

abbrev sample : List ℕ
sample = bytes "version 5.40 ; units database microns 1000 ; end units macro m;1 class pad output ; foreign f -0.50 1.250 ; foreign g ; symmetry x y ; pin p direction output tristate ; antennadiffarea 1 layer a ; antennagatearea 0 ; antennamodel oxide1 port class core ; layer m1 spacing 0.1 ; width 2 ; rect 0 0 1 1 ; layer m2 ; polygon 0 0 1 0 1 1 ; via 1 1 v ; end end p obs layer m1 exceptpgnet ; end end m;1 busbitchars \"[;\" ; end library"

pub written : again sample ≡ bytes "VERSION 5.4 ;\nUNITS\n  DATABASE MICRONS 1000 ;\nEND UNITS\nMACRO m;1\n  CLASS PAD OUTPUT ;\n  FOREIGN f -0.5 1.25 ;\n  FOREIGN g ;\n  SYMMETRY X Y ;\n  PIN p\n    DIRECTION OUTPUT TRISTATE ;\n    ANTENNADIFFAREA 1 LAYER a ;\n    ANTENNAGATEAREA 0 ;\n    ANTENNAMODEL OXIDE1\n    PORT\n      CLASS CORE ;\n      LAYER m1 SPACING 0.1 ;\n        WIDTH 2 ;\n        RECT 0 0 1 1 ;\n      LAYER m2 ;\n        POLYGON 0 0 1 0 1 1 ;\n        VIA 1 1 v ;\n    END\n  END p\n  OBS\n    LAYER m1 EXCEPTPGNET ;\n  END\nEND m;1\nBUSBITCHARS \"[;\" ;\nEND LIBRARY\n"
unfolding class_of run answers from first_answer screened keys values words raised upper same first_where word_of is_key kind_values values_in values_of place_of code_of next expect get_key expect_key expect_keyword expect_ident parse_number parse_enum Engine.begins parse_second empty member item items without act_for perform peek_key step turn turns read_ahead reading natural fraction shortest text index_in aside spelling first_of second_of says shows any omitted says_all forms_of row_forms forms_in of_code is_of form_for begins said_in close_of last_words spaced indented line on_line end_all pieces after lines render
written = refl

pub fit : fits sample ≡ true
unfolding class_of run answers from first_answer screened keys values words raised upper same first_where word_of is_key kind_values values_in values_of place_of code_of next expect get_key expect_key expect_keyword expect_ident parse_number parse_enum Engine.begins parse_second empty member item items without act_for perform peek_key step turn turns read_ahead reading natural fraction shortest text index_in aside spelling first_of second_of says shows any omitted says_all forms_of row_forms forms_in of_code is_of form_for begins said_in close_of last_words all is_name is_string is_token is_spelt is_code holds holds_all gives gives_all on_line after suits admits all_end fit_from indexed is_fit
fit = refl

-- a record of a kind, by its index and that of its owner
abbrev bare_record : ℕ → ℕ → Maybe ℕ → Plain
bare_record k i o = record { kind = k; code = 0; at = i; owner = o; name = []; x = 0; y = 0 }

-- MACRO, PIN, PORT, LAYER, RECT and two points; then the macro's OBS
abbrev nested : List Plain
nested =
    bare_record 13 0 none ∷ bare_record 18 1 (some 0) ∷ bare_record 24 2 (some 1) ∷ bare_record 27 3 (some 2) ∷ bare_record 30 4 (some 3)
    ∷ bare_record 33 5 (some 4) ∷ bare_record 33 6 (some 4) ∷ bare_record 26 7 (some 0) ∷ []

-- how deep the line of a part is, and none for one that goes on in its line
abbrev depth_of : Part → Maybe ℕ
depth_of (begins_at d r) = some d
depth_of (goes r) = none
depth_of (ends d q) = some d
depth_of last = some 0

-- five lines, the last with two points; END of the PORT and of the PIN; the OBS and its END; END of the MACRO; END LIBRARY
pub depths : map depth_of (layout [] nested) ≡ some 0 ∷ some 1 ∷ some 2 ∷ some 3 ∷ some 4 ∷ none ∷ none ∷ some 2 ∷ some 1 ∷ some 1 ∷ some 1 ∷ some 0 ∷ some 0 ∷ []
unfolding member on_owners_line closes_with_end chain ends_up_to layout
depths = refl
