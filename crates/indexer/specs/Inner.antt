-- Inner machinery, which nobody has to believe: what the inner functions ensure. Here s is the text, f gives the entries of an index by
-- their position, and es are the entries of the records.
use Rattle.std.specs.Prelude.{ℕ, ◌+◌, ◌-◌, ◌≤◌, ◌<◌, ◌≡◌, ◌⊎◌, Bool, true, false, cond, ◌||◌, ltb, length, Option, Some, None, Result, Ok, Err, ⊤}
use mathlib.Core.List.{List, Memᴰ}
use Rattle.ordered.specs.Counted.{up_to, total_to}
use Rattle.refusal.specs.declared.Refusal.{Refusal}
use Rattle.refusal.specs.Table.{refused, not_whole, wrong_record}
use Rattle.rowfile.specs.Rows as rows
use Rattle.record.specs.declared.Record.{Record}
use Rattle.grammar.specs.Reading.{reading}
use Rattle.verdict.specs.Meaning.{Reads}
use Rattle.entry.specs.declared.Entry.{Entry}
use Rattle.entry.specs.Entries.{count, held, entry_in}
use Rattle.entry.specs.Order.{Key, key_of, before, precedes}
use Rattle.index.specs.Index.{index_of}
use Rattle.index.specs.Answers.{bears, sought}
use Rattle.index.specs.Queries.{decoded, name_in}

-- what comes before 14
abbrev pub early : Result ⊤ Refusal → Bool
early (Ok t) = false
early (Err r) = ltb r.number wrong_record

-- a refusal before 14 stays; anything else comes behind 13 for a file that is not in whole rows
unfoldable pub between : Result ⊤ Refusal → List ℕ → ℕ → Result ⊤ Refusal
between answer file width = cond (early answer || rows.whole width file) answer (Err (refused not_whole (length file) 0))

-- each of the first n comes before all later ones of them
abbrev pub Rises : List ℕ → (ℕ → Entry) → ℕ → Type 0
Rises s f n = (i j : ℕ) → i < j → j < n → precedes s (f i) (f j) ≡ true

-- the largest number, and how many bytes a name has
abbrev pub largest : ℕ
largest = 18446744073709551615

abbrev pub len : Entry → ℕ
len e = e.len

-- the index rises over its first n entries; the next does not come after them, or with it their names have more than so many bytes
pub record Rising (s index : List ℕ) (most n : ℕ) : Type 0 where
  pub within : n ≤ count index
  pub rises : Rises s (entry_in index) n
  pub stop : n < count index
      → ((0 < n) × (precedes s (entry_in index (n - 1)) (entry_in index n) ≡ false)) ⊎ ((most < largest) × (most < total_to len (entry_in index) (n + 1)))

-- p is the first of the first n positions whose entry does not come before the key, or n
pub record Lower (s : List ℕ) (f : ℕ → Entry) (n : ℕ) (k : Key) (p : ℕ) : Type 0 where
  pub within : p ≤ n
  pub below : (i : ℕ) → i < p → before (key_of s (f i)) k ≡ true
  pub above : (i : ℕ) → p ≤ i → i < n → before (key_of s (f i)) k ≡ false

-- e is, or is not, one of the first n
abbrev pub Stands : (ℕ → Entry) → ℕ → Entry → Type 0
Stands f n e = (k : ℕ) × (k < n) × (f k ≡ e)

abbrev pub Lacks : (ℕ → Entry) → ℕ → Entry → Type 0
Lacks f n e = (k : ℕ) → k < n → f k ≡ e → ⊥

-- e stands there, or it does not, and p is where it would
abbrev pub Misses : List ℕ → (ℕ → Entry) → ℕ → Entry → Option ℕ → Type 0
Misses s f n e None = Stands f n e
Misses s f n e (Some p) = Lacks f n e × Lower s f n (key_of s e) p

-- p is the first place at which one of the entries es that do not stand there would
pub record Gap (s : List ℕ) (f : ℕ → Entry) (n : ℕ) (es : List Entry) (p : ℕ) : Type 0 where
  pub each : (e : Entry) → Memᴰ e es → Stands f n e ⊎ ((k : ℕ) → k < p → precedes s (f k) e ≡ true)
  pub there : (e : Entry) × Memᴰ e es × Lacks f n e × Lower s f n (key_of s e) p

-- all entries es stand there, or there is a first gap
abbrev pub Meeting : List ℕ → (ℕ → Entry) → ℕ → List Entry → Option ℕ → Type 0
Meeting s f n es None = (e : Entry) → Memᴰ e es → Stands f n e
Meeting s f n es (Some p) = Gap s f n es p

-- as many entries do not come after the entry before p as p says, and with the entry at p it is otherwise
pub record Agrees (s : List ℕ) (f : ℕ → Entry) (n : ℕ) (es : List Entry) (p : ℕ) : Type 0 where
  pub within : p ≤ n
  pub good : 0 < p → up_to (precedes s) (f (p - 1)) es ≡ p
  pub stop : p < n → up_to (precedes s) (f p) es ≡ p + 1 → ⊥

-- the least `at` of those of the first n entries that have the owner and the name, or that there is none
abbrev pub Seeks : List ℕ → (ℕ → Entry) → ℕ → ℕ → List ℕ → Option ℕ → Type 0
Seeks s f n owner name (Some a) =
    (k : ℕ) × (k < n) × (bears s owner name (f k) ≡ true) × ((f k).at ≡ a) × ((j : ℕ) → j < n → bears s owner name (f j) ≡ true → a ≤ (f j).at)
Seeks s f n owner name None = (j : ℕ) → j < n → bears s owner name (f j) ≡ true → ⊥

-- the index holds the entries of the text's reading, in its order
abbrev pub Indexed : List ℕ → List ℕ → Type 0
Indexed s index = (rs : List Record) × Reads s rs × (held index ≡ index_of s rs)

-- what is sought by each of the first n queries
abbrev pub sought_each : List ℕ → List ℕ → List ℕ → ℕ → List ℕ
sought_each s names queries n = rows.front 12 (λ l. let q = decoded l in sought s q.owner (name_in names q) (reading s)) n queries
