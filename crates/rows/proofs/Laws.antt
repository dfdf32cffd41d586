-- The words that a block's rows begin with, by number.
use Prim.Native.Nat.{ℕ}
use mathlib.Core.List.{List, [], ◌∷◌}
use Rattle.word.specs.Words.{word}
use Rattle.grammar.specs.Grammar.{Row}

abbrev pub words_in : List Row → List ℕ
words_in [] = []
words_in (r ∷ rs) = word r.begin ∷ words_in rs
