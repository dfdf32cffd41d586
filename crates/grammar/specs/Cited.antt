-- EVERY WORD THAT THE GRAMMAR AND ITS VALUES CITE IS IN THE TABLE OF WORDS, by one computed test: another would have the number 0.
use Prim.Native.String.{String}
use Rattle.std.specs.Prelude.{◌≡◌, refl, Bool, true, not, ◌&&◌, List, [], ◌∷◌, ◌++◌, eqb}
use Rattle.word.specs.Words.{keys, values, words, raised, upper, same, first_where, word_of, word}
use Rattle.word.specs.Codes.{Value, one, two, kind_values, all_values}
use Rattle.grammar.specs.Grammar.{Block, blocks, Item, key, keyword, name, own, x, y, semi, value, first, first_key, second, string, code, if_more, no_name, among, whole, Act, statement, close, refuse, back, up_to54, Row, Body, keyed, worded, options, parts, counted}
use Rattle.grammar.specs.Table.{body}
use Rattle.grammar.specs.Follows.{Follow, nothing, optional, required, optional_key, First, class_firsts, direction_firsts}

-- the words that are cited by an item, a list of items, an act, rows, a body, the bodies of blocks, values, and what stands after first
-- words

abbrev of_item : Item → List String
of_item (key w) = w ∷ []
of_item (keyword w) = w ∷ []
of_item name = []
of_item own = []
of_item x = []
of_item y = []
of_item semi = []
of_item value = []
of_item first = []
of_item first_key = []
of_item second = []
of_item (string n) = []
of_item (code c) = []
of_item (if_more n) = []
of_item no_name = []
of_item (among vs) = []
of_item (whole n) = []

abbrev of_items : List Item → List String
of_items [] = []
of_items (i ∷ is) = of_item i ++ of_items is

abbrev of_act : Act → List String
of_act (statement k is m) = of_items is
of_act (close is) = of_items is
of_act (refuse n) = []
of_act back = []
of_act (up_to54 act) = of_act act

abbrev of_rows : List Row → List String
of_rows [] = []
of_rows (w ∷ ws) = (w.begin ∷ of_act w.act) ++ of_rows ws

abbrev of_body : Body → List String
of_body (keyed n rows) = of_rows rows
of_body (worded rows) = of_rows rows
of_body (options rows b) = of_rows rows
of_body (parts k is) = of_items is
of_body (counted k is) = of_items is

abbrev of_blocks : List Block → List String
of_blocks [] = []
of_blocks (b ∷ bs) = of_body (body b) ++ of_blocks bs

abbrev of_values : List Value → List String
of_values [] = []
of_values (one w ∷ vs) = w ∷ of_values vs
of_values (two w v ∷ vs) = w ∷ v ∷ of_values vs

abbrev of_follow : Follow → List String
of_follow nothing = []
of_follow optional = []
of_follow required = []
of_follow (optional_key w) = w ∷ []

abbrev of_firsts : List First → List String
of_firsts [] = []
of_firsts (r ∷ rs) = (r.begin ∷ of_follow r.follow) ++ of_firsts rs

-- is each word in the table?
abbrev known : List String → Bool
known [] = true
known (w ∷ ws) = not (eqb (word w) 0) && known ws

pub all_known : known (of_blocks blocks ++ of_values all_values ++ of_firsts (class_firsts ++ direction_firsts)) ≡ true
unfolding keys values words raised upper same first_where word_of kind_values
all_known = refl
