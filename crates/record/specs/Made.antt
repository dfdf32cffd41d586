-- What the constructors make: a record's fields, of which those not named are 0.
use Rattle.std.specs.Prelude.{ℕ}
use Rattle.record.specs.declared.Record.{Record}

-- the owner of what stands in no block
abbrev pub library : ℕ
library = 4294967295

-- kind, code, `at`, owner, name start, name length, x, y
abbrev pub made : ℕ → ℕ → ℕ → ℕ → ℕ → ℕ → ℕ → ℕ → Record
made kind code at owner name len x y =
    record { kind = kind; code = code; spare = 0; at = at; owner = owner; name = name; len = len; x = x; y = y }

-- nothing but a place and an owner
abbrev pub bare : ℕ → ℕ → ℕ → Record
bare kind at owner = made kind 0 at owner 0 0 0 0

-- a word of the kind's list, by its code
abbrev pub coded : ℕ → ℕ → ℕ → ℕ → Record
coded kind at owner code = made kind code at owner 0 0 0 0

-- a name
abbrev pub named : ℕ → ℕ → ℕ → ℕ → ℕ → Record
named kind at owner name len = made kind 0 at owner name len 0 0

-- one number
abbrev pub valued : ℕ → ℕ → ℕ → ℕ → Record
valued kind at owner x = made kind 0 at owner 0 0 x 0

-- two numbers
abbrev pub placed : ℕ → ℕ → ℕ → ℕ → ℕ → Record
placed kind at owner x y = made kind 0 at owner 0 0 x y
