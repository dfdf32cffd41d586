-- `word::spelling::spelt` meets its contract: each row of the table has the letters of its word, as they compute, and past the table there are none.
use Rattle.std.proofs.Common.{◌≡◌, ℕ, ◌&&◌, nat_eq, length, get_or, Bool, true, List, [], refl, arith}
use borrow.Author.Tests.{eqb-true}
use Rattle.little.specs.Little.{number}
use Rattle.word.specs.Words.{keys, values, words, same}
use Rattle.word.specs.Spelling.{spelling}
use Rattle.word.specs.Letters.{eights_of, letters_of}
use Rattle.word.specs.declared.spelling.Letters.{Letters}
use Rattle.word.specs.declared.spelling.TheConstants.{TABLE}
use Rattle.word.proofs.Words.{both, same_eq}
use Rattle.word.proofs.Spelt.{below, below_at, no_letters}
use Rattle.word.proofs.spelling.spelt.Goals as goal

abbrev none : Letters
none = record { 0 = 0; 1 = [] }

abbrev row_is : Letters → List ℕ → Bool
row_is r s = nat_eq r.0 (length s) && same r.1 (eights_of s)

-- a row is told by its two parts
is_row : (r : Letters) (s : List ℕ) → row_is r s ≡ true → r ≡ letters_of s
is_row r s t =
    let b = both (nat_eq r.0 (length s)) (same r.1 (eights_of s)) t in
    let n : r.0 ≡ length s = eqb-true r.0 (length s) b.0 in
    let e : r.1 ≡ eights_of s = same_eq r.1 (eights_of s) b.1 in
    rw (← n, ← e) refl

tested : below (λ k. row_is (get_or TABLE k none) (spelling k)) 101 ≡ true
unfolding keys values words spelling number same
tested = refl

pub returns-then-k-le-WORDS : goal.returns-then-k-le-WORDS
returns-then-k-le-WORDS c =
    is_row (get_or TABLE c.args.k none) (spelling c.args.k)
    (below_at (λ k. row_is (get_or TABLE k none) (spelling k)) 101 tested c.args.k (omega arith))

pub returns-else-k-le-WORDS : goal.returns-else-k-le-WORDS
unfolding number
returns-else-k-le-WORDS c = rw (no_letters c.args.k (omega arith)) refl
