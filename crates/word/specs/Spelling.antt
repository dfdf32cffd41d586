-- The words by their numbers, and the words of a code.
use Rattle.std.specs.Prelude.{ℕ, zero, suc, ◌-◌, ◌*◌, cond, List, [], eqb, get_or}
use Rattle.word.specs.Words.{words}
use Rattle.word.specs.Codes.{values_of}

-- the bytes of the word with the number k, upper case; none where there is no such word
unfoldable pub spelling : ℕ → List ℕ
spelling zero = []
spelling (suc k) = get_or words k []

-- the first and the second word of the value that a code of a kind stands for; 0 where there is none
unfoldable pub first_of : ℕ → ℕ → ℕ
first_of k c = cond (eqb c 0) 0 (get_or (values_of k) (2 * c - 2) 0)

unfoldable pub second_of : ℕ → ℕ → ℕ
second_of k c = cond (eqb c 0) 0 (get_or (values_of k) (2 * c - 1) 0)
