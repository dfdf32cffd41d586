-- Inner machinery, which nobody has to believe: what the inner functions of the checker ensure. Here f and w give the records of the
-- file and of a window by their index.
use Rattle.std.specs.Prelude.{ℕ, ◌≤◌, ◌<◌, ◌≡◌, List, get_or, Option, Some, None}
use Rattle.record.specs.declared.Record.{Record}
use Rattle.verdict.specs.Facts.{Met, Unmet, Good, Wrong}

-- `at` rises over the first c records
abbrev pub Sorted : (ℕ → Record) → ℕ → Type 0
Sorted w c = (p q : ℕ) → p < q → q < c → (w p).at < (w q).at

-- p is the least of the first c indexes whose `at` is x or more, or c
pub record Lower (w : ℕ → Record) (c x p : ℕ) : Type 0 where
  pub within : p ≤ c
  pub below : (k : ℕ) → k < p → (w k).at < x
  pub above : (k : ℕ) → p ≤ k → k < c → x ≤ (w k).at

-- the index of x among the first c records, where it is one of them
abbrev pub Finds : (ℕ → Record) → ℕ → Record → Option ℕ → Type 0
Finds w c x (Some p) = (p < c) × (x ≡ w p)
Finds w c x None = Unmet c w x

-- the first c records have their `at` in lo .. hi
abbrev pub Inside : (ℕ → Record) → ℕ → ℕ → ℕ → Type 0
Inside w c lo hi = (k : ℕ) → k < c → (lo ≤ (w k).at) × ((w k).at ≤ hi)

-- the first i records of the file are scanned: those in lo .. hi are good, and the marks say which of the window's were met
pub record Scanned (f w : ℕ → Record) (lo hi c : ℕ) (marks : List ℕ) (i : ℕ) : Type 0 where
  pub good : (j : ℕ) → j < i → lo ≤ (f j).at → (f j).at ≤ hi → Good c w f j
  pub clear : (k : ℕ) → k < c → get_or marks k 0 ≡ 0 → Unmet i f (w k)
  pub marked : (k : ℕ) → k < c → (get_or marks k 0 ≡ 0 → ⊥) → Met i f (w k)

-- .. up to the limit, or to a wrong one in lo .. hi
pub record Scans (f w : ℕ → Record) (lo hi c limit : ℕ) (marks : List ℕ) (i : ℕ) : Type 0 where
  pub within : i ≤ limit
  pub scanned : Scanned f w lo hi c marks i
  pub stop : i < limit → (lo ≤ (f i).at) × ((f i).at ≤ hi) × Wrong c w f i

-- the first c marks are 0
abbrev pub AllClear : List ℕ → ℕ → Type 0
AllClear marks c = (k : ℕ) → k < c → get_or marks k 0 ≡ 0

-- the first of the first c marks that is 0
abbrev pub FirstClear : List ℕ → ℕ → Option ℕ → Type 0
FirstClear marks c (Some p) = (p < c) × ((k : ℕ) → k < p → get_or marks k 0 ≡ 0 → ⊥) × (get_or marks p 0 ≡ 0)
FirstClear marks c None = (k : ℕ) → k < c → get_or marks k 0 ≡ 0 → ⊥

-- of the first c records w the first that the first n records of the file have not
abbrev pub FirstUnmet : (ℕ → Record) → (ℕ → Record) → ℕ → ℕ → Option ℕ → Type 0
FirstUnmet f w c n (Some p) = (p < c) × ((k : ℕ) → k < p → Met n f (w k)) × Unmet n f (w p)
FirstUnmet f w c n None = (k : ℕ) → k < c → Met n f (w k)

-- what one window of c records in lo .. hi shows of the first `limit` records of the file: those before i in lo .. hi are good, and record i
-- is wrong if it is before the limit; and p is the first of the window that is not met before i
pub record Windowed (f w : ℕ → Record) (lo hi c limit i : ℕ) (p : Option ℕ) : Type 0 where
  pub within : i ≤ limit
  pub good : (j : ℕ) → j < i → lo ≤ (f j).at → (f j).at ≤ hi → Good c w f j
  pub stop : i < limit → (lo ≤ (f i).at) × ((f i).at ≤ hi) × Wrong c w f i
  pub unmet : FirstUnmet f w c i p
