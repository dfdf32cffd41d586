-- What the theorems say of a file and a reading. Here rs are the records of the reading, and fs those of the file.
use Rattle.std.specs.Prelude.{ℕ, suc, ◌<◌, ◌≡◌, ◌⊎◌, cond, length, get_or}
use mathlib.Core.List.{List, [], ◌∷◌, Permᴰ}
use Rattle.refusal.specs.declared.Refusal.{Refusal}
use Rattle.refusal.specs.Table.{refused, done, not_whole, wrong_record, lacking}
use Rattle.record.specs.declared.Record.{Record}
use Rattle.file.specs.File.{encoded_all}
use Rattle.grammar.specs.Reading.{records, reading}
use Rattle.verdict.specs.Verdict.{same, blank, checked}

-- the record at an index
abbrev pub nth : List Record → ℕ → Record
nth l i = get_or l i blank

-- x is one of the records
abbrev pub In : Record → List Record → Type 0
In x l = (i : ℕ) × (i < length l) × (x ≡ nth l i)

-- record i of the file is none of the reading's, or is equal to an earlier one
abbrev pub Foreign : List Record → List Record → ℕ → Type 0
Foreign rs fs i = In (nth fs i) rs → ⊥

abbrev pub Repeated : List Record → ℕ → Type 0
Repeated fs i = (j : ℕ) × (j < i) × (nth fs i ≡ nth fs j)

abbrev pub Faulty : List Record → List Record → ℕ → Type 0
Faulty rs fs i = Foreign rs fs i ⊎ Repeated fs i

-- record k of the reading is none of the file's
abbrev pub Lacking : List Record → List Record → ℕ → Type 0
Lacking rs fs k = In (nth rs k) fs → ⊥

-- i is the first number below n of which P holds; and there is none
abbrev pub First : ℕ → (ℕ → Type 0) → ℕ → Type 0
First n P i = (i < n) × P i × ((j : ℕ) → j < i → P j → ⊥)

abbrev pub None : ℕ → (ℕ → Type 0) → Type 0
None n P = (j : ℕ) → j < n → P j → ⊥

-- `at` rises
abbrev pub Rises : List Record → Type 0
Rises rs = (i j : ℕ) → i < j → j < length rs → (nth rs i).at < (nth rs j).at

-- how often x is in the list
unfoldable pub count : Record → List Record → ℕ
count x [] = 0
count x (y ∷ l) = cond (same x y) (suc (count x l)) (count x l)

-- each record is in both equally often
abbrev pub AsOften : List Record → List Record → Type 0
AsOften fs gs = (x : Record) → count x fs ≡ count x gs

-- the one is the other in some order: the empty list is of the empty list, and so is what keeps its head, swaps its first two, or does
-- this one after the other
abbrev pub Permutation : List Record → List Record → Type 0
Permutation fs gs = Permᴰ fs gs

-- the file is the bytes of the reading's records in some order, each once, and of nothing else
abbrev pub InSomeOrder : List Record → List ℕ → Type 0
InSomeOrder rs file = (fs : List Record) × Permutation fs rs × (file ≡ encoded_all fs)

-- the text s reads as the records rs
abbrev pub Reads : List ℕ → List Record → Type 0
Reads s rs = reading s ≡ records rs

-- the file is accepted for the text s
abbrev pub Accepted : List ℕ → List ℕ → Type 0
Accepted s file = checked (reading s) file ≡ refused done 0 0

-- an answer to a text that reads: 13 with the file's length, 14, 15 or 0
abbrev pub OfFile : List ℕ → Refusal → Type 0
OfFile file r =
    (r ≡ refused not_whole (length file) 0)
    ⊎ (((i : ℕ) × (r ≡ refused wrong_record i 0)) ⊎ (((a : ℕ) × (r ≡ refused lacking a 0)) ⊎ (r ≡ refused done 0 0)))
