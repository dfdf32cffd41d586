-- Inner machinery, which nobody has to believe: things kept as a heap, each by its position, and what holds while they are sorted.
use Rattle.std.specs.Prelude.{ℕ, ◌+◌, ◌*◌, ◌≤◌, ◌<◌, ◌≡◌, ◌⊎◌, ◌≢◌, Bool, false}

-- c is a child of the position i
abbrev pub Child : ℕ → ℕ → Type 0
Child i c = (c ≡ 2 * i + 1) ⊎ (c ≡ 2 * i + 2)

-- g is f with what it has at i and at j exchanged
pub record Exchanged {A : Type 0} (f g : ℕ → A) (i j : ℕ) : Type 0 where
  pub first : g i ≡ f j
  pub second : g j ≡ f i
  pub other : (k : ℕ) → k ≢ i → k ≢ j → g k ≡ f k

-- d does not come before e
abbrev pub NotAfter : {A : Type 0} → (A → A → Bool) → A → A → Type 0
NotAfter before e d = before d e ≡ false

-- among the first n, no child of a position from i on comes after it
abbrev pub Heap : {A : Type 0} → (A → A → Bool) → (ℕ → A) → ℕ → ℕ → Type 0
Heap before f i n = (j c : ℕ) → i ≤ j → Child j c → c < n → NotAfter before (f c) (f j)

-- among the first n, no child of a position from the start on comes after it, but for those of i, which do not come after the parent of i
pub record Sinking {A : Type 0} (before : A → A → Bool) (f : ℕ → A) (start i n : ℕ) : Type 0 where
  pub from : start ≤ i
  pub others : (j c : ℕ) → start ≤ j → j ≢ i → Child j c → c < n → NotAfter before (f c) (f j)
  pub over : (p c : ℕ) → start ≤ p → Child p i → Child i c → c < n → NotAfter before (f c) (f p)

-- c is a child of i among the first n, and no child of i comes after it
pub record Greatest {A : Type 0} (before : A → A → Bool) (f : ℕ → A) (i n c : ℕ) : Type 0 where
  pub child : Child i c
  pub within : c < n
  pub greatest : (d : ℕ) → Child i d → d < n → NotAfter before (f d) (f c)

-- at each of the first n positions g has something that f has at one of them, from n on it is as f, and it is a heap if f is one behind the first
pub record Sunk {A : Type 0} (before : A → A → Bool) (f g : ℕ → A) (n : ℕ) : Type 0 where
  pub kept : (k : ℕ) → n ≤ k → g k ≡ f k
  pub among : (k : ℕ) → k < n → (j : ℕ) × (j < n) × (g k ≡ f j)
  pub heap : Heap before f 1 n → Heap before g 0 n

-- the first e are a heap, those behind come after them, in order
pub record Sorting {A : Type 0} (before : A → A → Bool) (f : ℕ → A) (e n : ℕ) : Type 0 where
  pub heap : Heap before f 0 e
  pub behind : (i j : ℕ) → i < e → e ≤ j → j < n → NotAfter before (f i) (f j)
  pub done : (i j : ℕ) → e ≤ i → i < j → j < n → NotAfter before (f i) (f j)
