-- Where a row stands: a row that a file has room for lies in the file, and a part of a row is a part of the file.
use Prim.Native.Nat.{ℕ, zero, suc, ◌+◌, ◌*◌, ◌≤◌, ◌<◌}
use mathlib.Core.Path.{◌≡◌, refl, ap, ◌∙◌}
use mathlib.Core.List.{List, [], ◌∷◌}
use native.Mathlib.Nat.{mul_comm, mul-suc, mul-le-mul_left, le-div_iff_mul-le}
use native.Mathlib.Omega.{arith}
use lib.ListN.{length, take, drop, get_or, length-take, length-drop}
use lib.Seq.{take-take, drop-drop, get_or-take, get_or-drop}
use Rattle.little.specs.Little.{Bytes}
use Rattle.little.proofs.Laws.{take_bytes, drop_bytes}
use Rattle.rowfile.specs.Rows.{count, row_at}

-- the row after the one at an index
pub next : (n i : ℕ) → n + n * i ≡ n * suc i
next n i = omega (arith, mul-suc n i)

-- rows lie apart
pub apart : (n i j : ℕ) → i < j → n * i + n ≤ n * j
apart n i j h = omega (arith, mul-suc n i, mul-le-mul_left {m = suc i} {n = j} n h)

-- a row that a file has room for ends in the file
pub in_file : (n : ℕ) (file : List ℕ) (i : ℕ) → 0 < n → i < count n file → n * i + n ≤ length file
in_file n file i p h =
    let all : suc i * n ≤ length file = (le-div_iff_mul-le {k = n} {x = suc i} {y = length file} p).0 h in
    omega (arith, mul_comm n (suc i), mul-suc n i)

-- a part of a front is that part of the whole
pub part : (o k m : ℕ) (l : List ℕ) → o + k ≤ m → take k (drop o (take m l)) ≡ take k (drop o l)
part zero k m l h = take-take k m l (omega arith)
part (suc o) k zero l h = absurd (omega arith)
part (suc o) k (suc m) [] h = refl
part (suc o) k (suc m) (b ∷ l) h = part o k m l (omega arith)

module _ (n : ℕ) (file : List ℕ) (i : ℕ) where
  -- k bytes at an offset of a row, and the byte there
  pub row_part : (o k : ℕ) → o + k ≤ n → take k (drop o (row_at n file i)) ≡ take k (drop (n * i + o) file)
  row_part o k h = part o k n (drop (n * i) file) h ∙ ap (take k) (drop-drop o (n * i) file)

  pub row_byte : (o : ℕ) → o < n → get_or (row_at n file i) o 0 ≡ get_or file (n * i + o) 0
  row_byte o h = get_or-take n (drop (n * i) file) o 0 h ∙ get_or-drop (n * i) file o 0

  pub row_length : 0 < n → i < count n file → length (row_at n file i) ≡ n
  row_length p h = simp (length-take, length-drop) (omega (arith, in_file n file i p h))

  pub row_bytes : Bytes file → Bytes (row_at n file i)
  row_bytes b = take_bytes n (drop (n * i) file) (drop_bytes (n * i) file b)
