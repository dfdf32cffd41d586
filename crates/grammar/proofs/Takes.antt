-- What the table says of an item by itself: whether it takes a token, and whether its number is one of a complaint.
use mathlib.Core.Bool.{Bool, true, false, ◌&&◌}
use mathlib.Core.List.{List, [], ◌∷◌}
use Rattle.grammar.specs.Grammar.{Item, key, keyword, name, own, x, y, semi, value, first, first_key, second, string, code, if_more, no_name, among, whole}
use Rattle.grammar.proofs.Answers.{complains}

-- does the item take a token, whatever is held?
unfoldable pub takes : Item → Bool
takes (key w) = true
takes (keyword w) = true
takes name = true
takes own = true
takes x = true
takes y = true
takes semi = true
takes value = true
takes first = true
takes first_key = true
takes second = false
takes (string n) = true
takes (code c) = false
takes (if_more n) = false
takes no_name = false
takes (among vs) = false
takes (whole n) = false

-- is the number that the item names one of a complaint?
unfoldable pub numbered : Item → Bool
numbered (key w) = true
numbered (keyword w) = true
numbered name = true
numbered own = true
numbered x = true
numbered y = true
numbered semi = true
numbered value = true
numbered first = true
numbered first_key = true
numbered second = true
numbered (string n) = true
numbered (code c) = true
numbered (if_more n) = true
numbered no_name = true
numbered (among vs) = true
numbered (whole n) = complains n

unfoldable pub all_numbered : List Item → Bool
all_numbered [] = true
all_numbered (i ∷ is) = numbered i && all_numbered is

-- do the items begin with one that takes?
unfoldable pub eager : List Item → Bool
eager [] = false
eager (i ∷ is) = takes i
