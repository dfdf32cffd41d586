-- Files of rows of n bytes each, one after the other; bytes at the end that are too few for a row count for nothing.
use Rattle.std.specs.Prelude.{ℕ, zero, suc, ◌*◌, ◌/◌, ◌%◌, Bool, cond, List, [], ◌∷◌, ◌++◌, length, take, drop, eqb, ltb}
use Rattle.std.proofs.lemmas.List.Edits.{sets}

-- how many rows a file has, or has room for
abbrev pub count : ℕ → List ℕ → ℕ
count n file = length file / n

-- the bytes are whole rows
abbrev pub whole : ℕ → List ℕ → Bool
whole n file = eqb (length file % n) 0

-- the file has a whole row at the index
abbrev pub has_room : ℕ → List ℕ → ℕ → Bool
has_room n file index = ltb index (count n file)

-- the n bytes at an index
abbrev pub row_at : ℕ → List ℕ → ℕ → List ℕ
row_at n file index = take n (drop (n * index) file)

-- what the first m rows of a file hold
unfoldable pub front : {A : Type 0} → ℕ → (List ℕ → A) → ℕ → List ℕ → List A
front n decoded zero file = []
front n decoded (suc m) file = decoded (take n file) ∷ front n decoded m (drop n file)

-- what the rows of a file hold, in its order
abbrev pub held : {A : Type 0} → ℕ → (List ℕ → A) → List ℕ → List A
held n decoded file = front n decoded (count n file) file

-- the bytes of rows, one after the other
unfoldable pub joined : {A : Type 0} → (A → List ℕ) → List A → List ℕ
joined encoded [] = []
joined encoded (r ∷ rs) = encoded r ++ joined encoded rs

-- the file with the row at the index, where it has room there, and otherwise as it was
unfoldable pub stored : ℕ → List ℕ → ℕ → List ℕ → List ℕ
stored n row index file = cond (has_room n file index) (sets file (n * index) row) file

-- the file with two of its rows exchanged
unfoldable pub swapped : ℕ → ℕ → ℕ → List ℕ → List ℕ
swapped n i j file = stored n (row_at n file i) j (stored n (row_at n file j) i file)
