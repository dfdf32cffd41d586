-- Inner machinery, which nobody has to believe: what a pass over the turns does, the reading from a state on and the records stored on the way.
-- `Begins` and `Passes` settle the counts, the refusals and the file. Of a state that they answer they say only what is read from it on.
use Rattle.std.specs.Prelude.{ℕ, suc, ◌+◌, ◌≤◌, ◌≡◌, List, [], ◌∷◌, ◌++◌, length, Result, Ok, Err}
use Rattle.record.specs.declared.Record.{Record}
use Rattle.file.specs.File.{stored}
use Rattle.lexer.specs.Screen.{limit}
use Rattle.reader.specs.declared.open.State.{State}
use Rattle.reader.specs.declared.pass.Stuck.{Stuck as Stopped}
use Rattle.reader.specs.declared.pass.Passed.{Passed}
use Rattle.reader.specs.declared.pass.Passed.TheVariants as P
use Rattle.grammar.specs.Table.{body}
use Rattle.refusal.specs.declared.Refusal.{Refusal}
use Rattle.grammar.specs.Turns.{turns, halted}
use Rattle.grammar.specs.Reading.{Reading, records, refusal_of, start, told, reading}
use Rattle.parser.specs.Code.{rest_of, ahead_of}
use Rattle.reader.specs.Open.{Ranked, state_of}
use Rattle.reader.specs.Stepped.{turn_in}

-- no block stands deeper than it can
abbrev pub Sound : List ℕ → State → Type 0
Sound s st = Ranked (state_of s st).blocks

-- the reading from a state of the code on: as many turns as there are tokens suffice
abbrev pub read_from : List ℕ → State → Reading
read_from s o = told (turns body (suc (length (rest_of s o.held))) (state_of s o) (ahead_of s o.held))

-- a reading with these records before it
abbrev pub follow : List Record → Reading → Reading
follow rs (records qs) = records (rs ++ qs)
follow rs (refusal_of r) = refusal_of r

-- the file with the records stored from the index n on, each where the file has room for it
unfoldable pub stored_all : ℕ → List Record → List ℕ → List ℕ
stored_all n [] file = file
stored_all n (r ∷ rs) file = stored_all (n + 1) rs (stored r n file)

-- a text within its limit is read from the state on, which is the first, or is refused
abbrev pub Begins : List ℕ → Result State Refusal → Type 0
Begins s (Ok st) = (reading s ≡ read_from s st) × (length s ≤ limit) × (state_of s st ≡ start) × Sound s st
Begins s (Err r) = reading s ≡ refusal_of r

-- n records further: from a state and a file to a state and a file, with fewer tokens ahead
pub record Further (s : List ℕ) (st : State) (file : List ℕ) (n : ℕ) (to : State) (out : List ℕ) : Type 0 where
  pub given : List Record
  pub count : length given ≡ n
  pub rest : read_from s st ≡ follow given (read_from s to)
  pub laid : out ≡ stored_all 0 given file
  pub fewer : n + length (rest_of s to.held) ≤ length (rest_of s st.held)
  pub sound : Sound s to

-- the same up to a state in which the turn refuses
pub record Stuck (s : List ℕ) (st : State) (file : List ℕ) (r : Refusal) (to : State) (out : List ℕ) : Type 0 where
  pub count : ℕ
  pub further : Further s st file count to out
  pub halts : turn_in s to.open.version (state_of s to).blocks to.held ≡ halted r.number (record { place = r.place; line = r.line })
  pub reads : read_from s to ≡ refusal_of r

-- what `pass` answers, and the file as it leaves it
abbrev pub Passes : List ℕ → State → ℕ → List ℕ → List ℕ → Result Passed Stopped → Type 0
Passes s st most file out (Ok (P.Over n)) = (rs : List Record) × (read_from s st ≡ records rs) × (length rs ≡ n) × (n ≤ most) × (out ≡ stored_all 0 rs file)
Passes s st most file out (Ok (P.On to)) = Further s st file most to out
Passes s st most file out (Err e) = (read_from s st ≡ refusal_of e.refusal) × Stuck s st file e.refusal e.state out
