-- Worked examples, by computation.
use Rattle.std.specs.Prelude.{◌≡◌, refl, true, false}
use Rattle.text.specs.Text.{bytes}
use Rattle.record.specs.Kinds.{MACRO_CLASS, DIRECTION, USE, ANTENNA}
use Rattle.word.specs.Words.{keys, values, words, raised, upper, same, first_where, word_of, word, is_key}
use Rattle.word.specs.Codes.{kind_values, values_in, values_of, place_of, code_of}

-- lower case spells the same word
lower_case : word_of (bytes "Layer") ≡ word "LAYER"
unfolding keys values words raised upper same first_where word_of
lower_case = refl

first_word : word "LIBRARY" ≡ 1
unfolding keys values words raised upper same first_where word_of
first_word = refl

-- a semicolon belongs to the name
no_word : word_of (bytes "END;") ≡ 0
unfolding keys values words raised upper same first_where word_of
no_word = refl

-- BEGINEXT is a key word, DATABASE is none
key_word : is_key (word "BEGINEXT") ≡ true
unfolding keys values words raised upper same first_where word_of is_key
key_word = refl

value_word : is_key (word "DATABASE") ≡ false
unfolding keys values words raised upper same first_where word_of is_key
value_word = refl

-- the first and the last class of a macro
cover : code_of MACRO_CLASS (word "COVER") 0 ≡ 1
unfolding keys values words raised upper same first_where word_of kind_values values_in values_of place_of code_of
cover = refl

last_corner : code_of MACRO_CLASS (word "ENDCAP") (word "BOTTOMRIGHT") ≡ 26
unfolding keys values words raised upper same first_where word_of kind_values values_in values_of place_of code_of
last_corner = refl

-- ENDCAP alone is no class
bare_endcap : code_of MACRO_CLASS (word "ENDCAP") 0 ≡ 0
unfolding keys values words raised upper same first_where word_of kind_values values_in values_of place_of code_of
bare_endcap = refl

tristate : code_of DIRECTION (word "OUTPUT") (word "TRISTATE") ≡ 3
unfolding keys values words raised upper same first_where word_of kind_values values_in values_of place_of code_of
tristate = refl

-- a word of another kind's list is no value
no_use : code_of USE (word "INPUT") 0 ≡ 0
unfolding keys values words raised upper same first_where word_of kind_values values_in values_of place_of code_of
no_use = refl

ninth : code_of ANTENNA (word "ANTENNAMAXCUTCAR") 0 ≡ 9
unfolding keys values words raised upper same first_where word_of kind_values values_in values_of place_of code_of
ninth = refl
