-- Records with text positions aside: `at` and owner as indexes in the reading, names as their bytes.
use Rattle.std.specs.Prelude.{ℕ, suc, cond, List, [], ◌∷◌, map, eqb, take, drop}
use Rattle.record.specs.declared.Record.{Record}
use Rattle.record.specs.Made.{library}
use Rattle.grammar.specs.Engine.{Maybe, none, some}
use Rattle.grammar.specs.Standing.{places_of}

pub record Plain : Type 0 where
  pub kind : ℕ
  pub code : ℕ
  pub at : ℕ
  pub owner : Maybe ℕ
  pub name : List ℕ
  pub x : ℕ
  pub y : ℕ

-- none for the library
abbrev pub owner_of : ℕ → Maybe ℕ
owner_of p = cond (eqb p library) none (some p)

-- a record of the text s, with its places
abbrev pub bare : List ℕ → Record → Plain
bare s r =
    record { kind = r.kind; code = r.code; at = r.at; owner = owner_of r.owner; name = take r.len (drop r.name s); x = r.x; y = r.y }

abbrev pub renamed_owner : (ℕ → ℕ) → Maybe ℕ → Maybe ℕ
renamed_owner f none = none
renamed_owner f (some p) = some (f p)

-- other numbers for `at` and owner
abbrev pub renamed : (ℕ → ℕ) → Plain → Plain
renamed f r =
    record { kind = r.kind; code = r.code; at = f r.at; owner = renamed_owner f r.owner; name = r.name; x = r.x; y = r.y }

-- the index of the first place that is p, or how many places there are
unfoldable pub index_in : List ℕ → ℕ → ℕ
index_in [] p = 0
index_in (q ∷ qs) p = cond (eqb q p) 0 (suc (index_in qs p))

-- the records of the text s, positions aside
unfoldable pub aside : List ℕ → List Record → List Plain
aside s rs = map (λ r. renamed (index_in (places_of rs)) (bare s r)) rs
