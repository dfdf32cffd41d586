-- What the theorems say of an index and of a look-up. Here rs are the records of the reading of the text s.
use Rattle.std.specs.Prelude.{ℕ, ◌≤◌, ◌<◌, ◌≡◌, ◌⊎◌, List}
use Rattle.std.proofs.Math.ListN.{get_elem?}
use Rattle.record.specs.declared.Record.{Record}
use Rattle.record.specs.Kinds.{SITE, MACRO, PIN}
use Rattle.lookup.specs.Name.{part}
use Rattle.entry.specs.declared.Entry.{Entry}
use Rattle.verdict.specs.Meaning.{In}

-- r is a SITE block, a MACRO or a PIN
abbrev pub Entered : Record → Type 0
Entered r = (r.kind ≡ SITE) ⊎ ((r.kind ≡ MACRO) ⊎ (r.kind ≡ PIN))

-- r is a SITE block, a MACRO or a PIN of that owner and name
abbrev pub Called : List ℕ → ℕ → List ℕ → Record → Type 0
Called s owner name r = Entered r × (r.owner ≡ owner) × (part s r.name r.len ≡ name)

-- a is the `at` of one of that owner and name, and none of them has a lesser one
abbrev pub LeastAt : List ℕ → ℕ → List ℕ → List Record → ℕ → Type 0
LeastAt s owner name rs a =
    ((r : Record) × In r rs × Called s owner name r × (r.at ≡ a))
    × ((r : Record) → In r rs → Called s owner name r → a ≤ r.at)

-- there is none of that owner and name
abbrev pub NoneCalled : List ℕ → ℕ → List ℕ → List Record → Type 0
NoneCalled s owner name rs = (r : Record) → In r rs → Called s owner name r → ⊥

-- two indexes have the same at each position below p, and not at p; past its end an index has nothing
abbrev pub DifferAt : List Entry → List Entry → ℕ → Type 0
DifferAt k l p = ((j : ℕ) → j < p → get_elem? k j ≡ get_elem? l j) × (get_elem? k p ≡ get_elem? l p → ⊥)
