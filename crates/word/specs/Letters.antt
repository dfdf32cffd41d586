-- Inner machinery, which nobody has to believe: the letters of a word as the code keeps them, how many and eight at a time as numbers.
use Rattle.std.specs.Prelude.{ℕ, List, [], ◌∷◌, length, take, drop}
use Rattle.little.specs.Little.{number}
use Rattle.word.specs.declared.spelling.Letters.{Letters}

abbrev pub eights_of : List ℕ → List ℕ
eights_of s = number (take 8 s) ∷ number (take 8 (drop 8 s)) ∷ number (take 8 (drop 16 s)) ∷ number (take 8 (drop 24 s)) ∷ []

abbrev pub letters_of : List ℕ → Letters
letters_of s = record { 0 = length s; 1 = eights_of s }
