-- Inner machinery, which nobody has to believe: what the windows so far show of a file. Here r and f give the records of the reading and
-- of the file by their index, and m and n say how many there are.
use Rattle.std.specs.Prelude.{ℕ, ◌+◌, ◌≤◌, ◌<◌, ◌≡◌, Option, Some, None}
use Rattle.record.specs.declared.Record.{Record}
use Rattle.verdict.specs.Facts.{Met, Unmet, Good, Wrong}
use Rattle.checker.specs.declared.windows.Seen.{Seen}

-- all of the reading before a is in the file; or the first that is not has its `at` at x
abbrev pub Told : ℕ → (ℕ → Record) → (ℕ → Record) → ℕ → Option ℕ → Type 0
Told n r f a None = (k : ℕ) → k < a → Met n f (r k)
Told n r f a (Some x) = (k : ℕ) × (k < a) × (x ≡ (r k).at) × Unmet n f (r k) × ((j : ℕ) → j < k → Met n f (r j))

-- the windows had the first a records of the reading, which are those below s .low: the file's records before s.limit and below s .low are
-- good, record s .limit is wrong where there is one, and where there is none `lack` says what is lacking
pub record Covered (m n : ℕ) (r f : ℕ → Record) (a : ℕ) (s : Seen) : Type 0 where
  pub a_le : a ≤ m
  pub under : (k : ℕ) → k < a → (r k).at < s.low
  pub over : (k : ℕ) → a ≤ k → k < m → s.low ≤ (r k).at
  pub limit_le : s.limit ≤ n
  pub good : (j : ℕ) → j < s.limit → (f j).at < s.low → Good m r f j
  pub wrong : s.limit < n → Wrong m r f s.limit
  pub told : s.limit ≡ n → Told n r f a s.lack

-- the window w holds the c records from a on, and hi is between them and the later ones
pub record Fills (m : ℕ) (r w : ℕ → Record) (a c hi : ℕ) : Type 0 where
  pub fits : a + c ≤ m
  pub filled : (k : ℕ) → k < c → w k ≡ r (a + k)
  pub last : (k : ℕ) → k < a + c → (r k).at ≤ hi
  pub later : (k : ℕ) → a + c ≤ k → k < m → hi < (r k).at
