-- Inner machinery, which nobody has to believe: the verdict by facts on single records. Here r and f give the records of the reading and of
-- the file by their index, and m and n say how many there are.
use Rattle.std.specs.Prelude.{ℕ, ◌<◌, ◌≡◌, ◌⊎◌}
use Rattle.record.specs.declared.Record.{Record}

-- x is, or is not, one of the first n of f
abbrev pub Met : ℕ → (ℕ → Record) → Record → Type 0
Met n f x = (j : ℕ) × (j < n) × (x ≡ f j)

abbrev pub Unmet : ℕ → (ℕ → Record) → Record → Type 0
Unmet n f x = (j : ℕ) → j < n → x ≡ f j → ⊥

-- record i of the file is one of the reading's, and equal to no earlier one
pub record Good (m : ℕ) (r f : ℕ → Record) (i : ℕ) : Type 0 where
  pub known : Met m r (f i)
  pub new : Unmet i f (f i)

-- it is foreign, or equal to an earlier one
abbrev pub Wrong : ℕ → (ℕ → Record) → (ℕ → Record) → ℕ → Type 0
Wrong m r f i = Unmet m r (f i) ⊎ Met i f (f i)
