-- Inner machinery, which nobody has to believe: what the passes over a text ensure. Here s is the text, and o a state of the reader
-- between two turns.
use Rattle.std.specs.Prelude.{ℕ, ◌+◌, ◌/◌, ◌≤◌, ◌<◌, ◌≡◌, Bool, true, false, List, length, Option, Some, None, Result, Ok, Err, ⊤}
use Rattle.refusal.specs.declared.Refusal.{Refusal}
use Rattle.record.specs.declared.Record.{Record}
use Rattle.record.specs.Range.{InRange}
use Rattle.grammar.specs.Reading.{records, refusal_of}
use Rattle.reader.specs.declared.open.State.{State}
use Rattle.reader.specs.Passed.{Sound, read_from}
use Rattle.verdict.specs.Meaning.{nth, Rises}
use Rattle.file.specs.File.{record_in}

-- each record fits its bytes
abbrev pub Fit : List Record → Type 0
Fit rs = (k : ℕ) → k < length rs → InRange (nth rs k)

-- from the state on, which is sound, the text gives these records, which rise and fit
pub record Reads (s : List ℕ) (o : State) (rs : List Record) : Type 0 where
  pub sound : Sound s o
  pub gives : read_from s o ≡ records rs
  pub rises : Rises rs
  pub fit : Fit rs

-- the file holds these records and no more, in this order, if they fit
abbrev pub InOrder : List Record → List ℕ → Type 0
InOrder rs file = Fit rs → (length file / 36 ≡ length rs) × ((k : ℕ) → k < length rs → record_in file k ≡ nth rs k)

-- whether the file holds the records from the state on in their order; where it does not, only that there are such
abbrev pub Orders : List ℕ → State → List ℕ → Result Bool Refusal → Type 0
Orders s o file (Ok true) = (rs : List Record) × (read_from s o ≡ records rs) × InOrder rs file
Orders s o file (Ok false) = (rs : List Record) × (read_from s o ≡ records rs)
Orders s o file (Err r) = read_from s o ≡ refusal_of r

-- a run goes on over c records w: the file has them in its place
abbrev pub Goes : Option ℕ → ℕ → (ℕ → Record) → List ℕ → Option ℕ → Type 0
Goes run c w file None = Unit {0}
Goes None c w file (Some n) = ⊥
Goes (Some done) c w file (Some n) = (n ≡ done + c) × (n ≤ length file / 36) × ((k : ℕ) → k < c → record_in file (done + k) ≡ w k)

-- what comparing says of the file, whose order is not asked for
abbrev pub accepted : Result Bool Refusal → Result ⊤ Refusal
accepted (Ok same) = Ok tt
accepted (Err r) = Err r

-- how many records a stretch of the first pass holds, and its bytes; and how many a window
abbrev pub stretch : ℕ
stretch = 64

abbrev pub stretch_bytes : ℕ
stretch_bytes = 2304

abbrev pub width : ℕ
width = 16384

abbrev pub width_bytes : ℕ
width_bytes = 589824
