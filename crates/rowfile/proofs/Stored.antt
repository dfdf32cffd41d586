-- A row that is stored is read back, and no other row is changed, since rows lie apart.
use Prim.Native.Nat.{ℕ, suc, ◌+◌, ◌-◌, ◌*◌, ◌≤◌, ◌<◌}
use mathlib.Core.Path.{◌≡◌, refl, sym, ap, ◌∙◌}
use mathlib.Core.Bool.{true, false, cond}
use mathlib.Core.Logic.{◌≢◌}
use mathlib.Core.List.{List, [], ◌∷◌, ◌++◌, append_assoc}
use native.Mathlib.Decide.{dec_lt}
use native.Mathlib.Nat.{zero-add, div-zero}
use native.Mathlib.Omega.{arith}
use borrow.Author.Tests.{ltb-true}
use lib.ListN.{length, take, drop, set}
use borrow.Rule.Slice.PartMut.{put_mid}
use lib.Seq.{take_all, sets, sets-eq, take_at, drop_at, length-sets, drop-set-add, drop-set-lt, take-set-le, length-take-le}
use Rattle.std.proofs.lemmas.Slice.{put_mid-paste}
use Rattle.rowfile.specs.Rows.{count, has_room, row_at, stored}
use Rattle.rowfile.proofs.Parts.{apart, in_file}

-- A RUN OF STORES

-- at the front: the bytes, and the rest of the file
pub sets_front : (l file : List ℕ) → length l ≤ length file → sets file 0 l ≡ l ++ drop (length l) file
sets_front l file h = rw (zero-add (length l)) at (sets-eq l file 0 (omega arith))

-- two runs, one after the other
pub sets_append : (xs ys l : List ℕ) (p : ℕ) → sets l p (xs ++ ys) ≡ sets (sets l p xs) (p + length xs) ys
sets_append [] ys l p = ap (λ q. sets l q ys) (omega arith)
sets_append (x ∷ xs) ys l p = sets_append xs ys (set l p x) (suc p) ∙ ap (λ q. sets (sets (set l p x) (suc p) xs) q ys) (omega arith)

-- a run is what a copy over that part leaves
pub sets_copied : (ys zs l : List ℕ) (p k : ℕ) → ys ≡ zs → k ≡ length zs → p + length zs ≤ length l → put_mid p k l ys ≡ sets l p zs
sets_copied ys zs l p k e h r = put_mid-paste p k l ys zs k e refl h ∙ rw (h, take_all (length zs) zs (omega arith)) (sym (sets-eq zs l p r))

-- a part that ends before a run, or starts after it, is kept
kept_before : (ys l : List ℕ) (p o n : ℕ) → o + n ≤ p → take n (drop o (sets l p ys)) ≡ take n (drop o l)
kept_before [] l p o n h = refl
kept_before (y ∷ ys) l p o n h =
    let e : o + (p - o) ≡ p = omega arith in
    kept_before ys (set l p y) (suc p) o n (omega arith)
    ∙ ap (λ q. take n (drop o (set l q y))) (sym e)
    ∙ rw (drop-set-add o l (p - o) y, take-set-le n (drop o l) (p - o) y (omega arith))

kept_after : (ys l : List ℕ) (p o n : ℕ) → p + length ys ≤ o → take n (drop o (sets l p ys)) ≡ take n (drop o l)
kept_after [] l p o n h = refl
kept_after (y ∷ ys) l p o n h = kept_after ys (set l p y) (suc p) o n (omega arith) ∙ rw (drop-set-lt o l p y (omega arith))

-- A ROW THAT IS STORED

pub stored_length : (n : ℕ) (row : List ℕ) (i : ℕ) (file : List ℕ) → length (stored n row i file) ≡ length file
unfolding stored
stored_length n row i file =
    elim (has_room n file i) as (λ b. length (cond b (sets file (n * i) row) file) ≡ length file) [ true ↦ length-sets file (n * i) row | false ↦ refl ]

-- rows have a width where a file has room for one
some_width : (n : ℕ) (file : List ℕ) (i : ℕ) → has_room n file i ≡ true → 0 < n
some_width n file i h = elim (dec_lt 0 n) [
  | yes p ↦ p
  | no q ↦
      let e : n ≡ 0 = omega (arith, q) in
      let none : count n file ≡ 0 = rw e (div-zero (length file)) in
      absurd (omega (arith, ltb-true i (count n file) h))
]

module _ (n : ℕ) (row : List ℕ) (i : ℕ) (file : List ℕ) (room : has_room n file i ≡ true) where
  pub row_fits : n * i + n ≤ length file
  row_fits = in_file n file i (some_width n file i room) (ltb-true _ _ room)

  -- where there is room the bytes are laid at the row's place
  pub stored_sets : stored n row i file ≡ sets file (n * i) row
  unfolding stored
  stored_sets = rw room

  module _ (size : length row ≡ n) where
    -- they take the row's place, and all others are kept
    pub laid : stored n row i file ≡ take (n * i) file ++ row ++ drop (n * i + n) file
    laid = stored_sets ∙ sets-eq row file (n * i) (omega (arith, row_fits)) ∙ rw size

    -- what was stored is read at its index
    pub read_stored : row_at n (stored n row i file) i ≡ row
    read_stored =
        let front : length (take (n * i) file) ≡ n * i = length-take-le (n * i) file (omega (arith, row_fits)) in
        rw laid
        (rw (
          append_assoc (take (n * i) file) row (drop (n * i + n) file),
          drop_at (take (n * i) file) (row ++ drop (n * i + n) file) (n * i) front,
          take_at row (drop (n * i + n) file) n size,
        ))

    -- and at any other index what was there
    pub read_other : (j : ℕ) → j ≢ i → row_at n (stored n row i file) j ≡ row_at n file j
    read_other j h = ap (λ l. row_at n l j) stored_sets ∙ elim (dec_lt j i) [
      | yes p ↦ kept_before row file (n * i) (n * j) n (apart n j i p)
      | no q ↦ kept_after row file (n * i) (n * j) n (rw size (apart n i j (omega (arith, q, h))))
    ]
