-- Two rows that are exchanged: each is read where the other was, and all others where they were, so that the rows are the same in another order.
use Prim.Native.Nat.{ℕ, zero, suc, ◌+◌, ◌-◌, ◌*◌, ◌≤◌, ◌<◌}
use mathlib.Core.Path.{◌≡◌, refl, sym, ap, subst, ◌∙◌}
use mathlib.Core.Bool.{true}
use mathlib.Core.Logic.{◌≢◌}
use mathlib.Core.List.{List, [], ◌∷◌, Permᴰ}
use native.Mathlib.Decide.{dec_lt, ℕ_discrete}
use native.Mathlib.Nat.{le_of_suc-le-suc, div-zero}
use native.Mathlib.Numerals.{add-one}
use native.Mathlib.Omega.{arith}
use borrow.Author.Tests.{lt-ltb}
use lib.ListN.{length, drop, get_or, set, length-set, length-drop}
use lib.Seq.{sets, set_comm, drop-cons, drop-set-lt, get_or-set_same, get_or-set_other, ext_get_or}
use Rattle.rowfile.specs.Rows.{count, has_room, row_at, held, stored, swapped}
use Rattle.rowfile.proofs.Parts.{in_file, apart, row_byte, row_length}
use Rattle.rowfile.proofs.Held.{held_length, held_at}
use Rattle.rowfile.proofs.Stored.{stored_length, stored_sets, read_stored, read_other}

-- RUNS OF STORES

-- a store past a run may come before it
set_sets : (xs l : List ℕ) (p q y : ℕ) → p + length xs ≤ q → set (sets l p xs) q y ≡ sets (set l q y) p xs
set_sets [] l p q y h = refl
set_sets (x ∷ xs) l p q y h =
    set_sets xs (set l p x) (suc p) q y (omega arith) ∙ ap (λ m. sets m (suc p) xs) (set_comm l p q x y (λ e. omega arith))

-- the first bytes of two runs that lie apart are stored, and then the rest of both
both_first : (xs ys l : List ℕ) (p q x y : ℕ) → p + suc (length xs) ≤ q
    → sets (sets (set (set l p x) q y) (suc p) xs) (suc q) ys ≡ sets (sets l p (x ∷ xs)) q (y ∷ ys)
both_first xs ys l p q x y h = ap (λ m. sets m (suc q) ys) (sym (set_sets xs (set l p x) (suc p) q y (omega arith)))

-- what lies past a run is kept
past_run : (xs l : List ℕ) (p k : ℕ) → p + length xs ≤ k → drop k (sets l p xs) ≡ drop k l
past_run [] l p k h = refl
past_run (x ∷ xs) l p k h = past_run xs (set l p x) (suc p) k (omega arith) ∙ drop-set-lt k l p x (omega arith)

-- A LIST WITH TWO PLACES EXCHANGED

module _ {A : Type 0} (d : A) where
  exchanged_first : (a : A) (t : List A) (j : ℕ) → j < length t → Permᴰ (get_or t j d ∷ set t j a) (a ∷ t)
  exchanged_first a [] j h = absurd (omega arith)
  exchanged_first a (b ∷ t) zero h = Permᴰ.swap refl refl
  exchanged_first a (b ∷ t) (suc j) h =
      Permᴰ.trans (Permᴰ.swap refl refl)
      (Permᴰ.trans (Permᴰ.cons refl (exchanged_first a t j (le_of_suc-le-suc h))) (Permᴰ.swap refl refl))

  pub exchanged : (l : List A) (i j : ℕ) → i < j → j < length l → Permᴰ (set (set l i (get_or l j d)) j (get_or l i d)) l
  exchanged [] i j h k = absurd (omega arith)
  exchanged (a ∷ t) i zero h k = absurd (omega arith)
  exchanged (a ∷ t) zero (suc j) h k = exchanged_first a t j (le_of_suc-le-suc k)
  exchanged (a ∷ t) (suc i) (suc j) h k = Permᴰ.cons refl (exchanged t i j (le_of_suc-le-suc h) (le_of_suc-le-suc k))

-- TWO ROWS EXCHANGED

some_width : (n : ℕ) (file : List ℕ) (j : ℕ) → j < count n file → 0 < n
some_width n file j h = elim (dec_lt 0 n) [
  | yes p ↦ p
  | no q ↦
      let e : n ≡ 0 = omega (arith, q) in
      let none : count n file ≡ 0 = rw e (div-zero (length file)) in
      absurd (omega arith)
]

module _ (n i j : ℕ) (file : List ℕ) (less : i < j) (within : j < count n file) where
  pub width_some : 0 < n
  width_some = some_width n file j within

  room_first : has_room n file i ≡ true
  room_first = lt-ltb i (count n file) (omega arith)

  pub first_size : length (row_at n file i) ≡ n
  first_size = row_length n file i width_some (omega arith)

  pub second_size : length (row_at n file j) ≡ n
  second_size = row_length n file j width_some within

  -- the file with the second row in the place of the first
  abbrev half : List ℕ
  half = stored n (row_at n file j) i file

  room_second : has_room n half j ≡ true
  room_second = lt-ltb j (count n half) (rw (stored_length n (row_at n file j) i file) within)

  -- as two runs of stores
  pub swapped_sets : swapped n i j file ≡ sets (sets file (n * i) (row_at n file j)) (n * j) (row_at n file i)
  unfolding swapped
  swapped_sets =
      stored_sets n (row_at n file i) j half room_second
      ∙ ap (λ l. sets l (n * j) (row_at n file i)) (stored_sets n (row_at n file j) i file room_first)

  -- both rows end in the file, the first before the second
  pub ends : (n * i + n ≤ n * j) × (n * j + n ≤ length file)
  ends = (apart n i j less, in_file n file j width_some within)

  -- one more byte exchanged: the bytes further on are kept, and the rest of both rows comes to the same
  module _ (now : List ℕ) (k : ℕ) (size : length now ≡ length file) (below : k < n)
      (kept : (m : ℕ) → k ≤ m → m < n → (get_or now (n * i + m) 0 ≡ get_or file (n * i + m) 0) × (get_or now (n * j + m) 0 ≡ get_or file (n * j + m) 0)) where
    abbrev further : List ℕ
    further = set (set now (n * i + k) (get_or now (n * j + k) 0)) (n * j + k) (get_or now (n * i + k) 0)

    pub further_kept : (m : ℕ) → k + 1 ≤ m → m < n
        → (get_or further (n * i + m) 0 ≡ get_or file (n * i + m) 0) × (get_or further (n * j + m) 0 ≡ get_or file (n * j + m) 0)
    further_kept m p q =
        let both = kept m (omega arith) q in (
          get_or-set_other (set now (n * i + k) (get_or now (n * j + k) 0)) (n * j + k) (n * i + m) (get_or now (n * i + k) 0) 0 (λ e. omega (arith, ends))
              ∙ get_or-set_other now (n * i + k) (n * i + m) (get_or now (n * j + k) 0) 0 (λ e. omega arith)
              ∙ both.0,
          get_or-set_other (set now (n * i + k) (get_or now (n * j + k) 0)) (n * j + k) (n * j + m) (get_or now (n * i + k) 0) 0 (λ e. omega arith)
              ∙ get_or-set_other now (n * i + k) (n * j + m) (get_or now (n * j + k) 0) 0 (λ e. omega (arith, ends))
              ∙ both.1,
        )

    pub further_rest : sets (sets further (n * i + (k + 1)) (drop (k + 1) (row_at n file j))) (n * j + (k + 1)) (drop (k + 1) (row_at n file i))
        ≡ sets (sets now (n * i + k) (drop k (row_at n file j))) (n * j + k) (drop k (row_at n file i))
    further_rest =
        let here = kept k (omega arith) below in
        let one : get_or now (n * j + k) 0 ≡ get_or (row_at n file j) k 0 = here.1 ∙ sym (row_byte n file j k below) in
        let other : get_or now (n * i + k) 0 ≡ get_or (row_at n file i) k 0 = here.0 ∙ sym (row_byte n file i k below) in
        let p : n * i + (k + 1) ≡ suc (n * i + k) = omega arith in
        let q : n * j + (k + 1) ≡ suc (n * j + k) = omega arith in
        let left : length (drop (suc k) (row_at n file j)) ≡ n - suc k = length-drop (suc k) (row_at n file j) ∙ rw second_size in
        rw (p, q, add-one, one, other)
        (both_first (drop (suc k) (row_at n file j)) (drop (suc k) (row_at n file i)) now (n * i + k) (n * j + k)
        (get_or (row_at n file j) k 0) (get_or (row_at n file i) k 0) (rw left (omega (arith, ends)))
        ∙ rw (← drop-cons (row_at n file j) k 0 (rw second_size below), ← drop-cons (row_at n file i) k 0 (rw first_size below)))

  pub swapped_length : length (swapped n i j file) ≡ length file
  unfolding swapped
  swapped_length = stored_length n (row_at n file i) j half ∙ stored_length n (row_at n file j) i file

  pub swapped_count : count n (swapped n i j file) ≡ count n file
  swapped_count = rw swapped_length

  pub swapped_first : row_at n (swapped n i j file) i ≡ row_at n file j
  unfolding swapped
  swapped_first =
      read_other n (row_at n file i) j half room_second first_size i (λ e. omega arith)
      ∙ read_stored n (row_at n file j) i file room_first second_size

  pub swapped_second : row_at n (swapped n i j file) j ≡ row_at n file i
  unfolding swapped
  swapped_second = read_stored n (row_at n file i) j half room_second first_size

  pub swapped_other : (k : ℕ) → k ≢ i → k ≢ j → row_at n (swapped n i j file) k ≡ row_at n file k
  unfolding swapped
  swapped_other k p q =
      read_other n (row_at n file i) j half room_second first_size k q
      ∙ read_other n (row_at n file j) i file room_first second_size k p

  -- the bytes behind the last row are kept
  pub swapped_past : drop (n * count n file) (swapped n i j file) ≡ drop (n * count n file) file
  swapped_past =
      ap (drop (n * count n file)) swapped_sets
      ∙ past_run (row_at n file i) (sets file (n * i) (row_at n file j)) (n * j) (n * count n file) (rw first_size (apart n j (count n file) within))
      ∙ past_run (row_at n file j) file (n * i) (n * count n file) (rw second_size (apart n i (count n file) (omega arith)))

  -- THE ROWS, IN ANOTHER ORDER

  abbrev rows : List (List ℕ)
  rows = held n (λ l. l) file

  abbrev two : List (List ℕ)
  two = set (set rows i (get_or rows j [])) j (get_or rows i [])

  rows_length : length rows ≡ count n file
  rows_length = held_length n (λ l. l) file

  rows_at : (k : ℕ) → k < count n file → get_or rows k [] ≡ row_at n file k
  rows_at k h = held_at n (λ l. l) file [] k h

  two_length : length two ≡ count n file
  two_length = length-set (set rows i (get_or rows j [])) j (get_or rows i []) ∙ length-set rows i (get_or rows j []) ∙ rows_length

  two_at : (k : ℕ) → k < count n file → get_or two k [] ≡ row_at n (swapped n i j file) k
  two_at k h = elim (ℕ_discrete k j) [
    | yes e ↦ rw e (get_or-set_same (set rows i (get_or rows j [])) j (get_or rows i []) [] (rw (length-set, rows_length) within)
        ∙ rows_at i (omega arith) ∙ sym swapped_second)
    | no p ↦ get_or-set_other (set rows i (get_or rows j [])) j k (get_or rows i []) [] p ∙ elim (ℕ_discrete k i) [
      | yes e ↦ rw e (get_or-set_same rows i (get_or rows j []) [] (rw rows_length (omega arith)) ∙ rows_at j within ∙ sym swapped_first)
      | no q ↦ get_or-set_other rows i k (get_or rows j []) [] q ∙ rows_at k h ∙ sym (swapped_other k q p)
    ]
  ]

  swapped_two : two ≡ held n (λ l. l) (swapped n i j file)
  swapped_two =
      ext_get_or [] two (held n (λ l. l) (swapped n i j file)) (two_length ∙ sym (held_length n (λ l. l) (swapped n i j file) ∙ swapped_count))
      (λ k h.
      let h' : k < count n file = rw two_length at h in
      two_at k h' ∙ sym (held_at n (λ l. l) (swapped n i j file) [] k (rw swapped_count h')))

  pub swapped_order : Permᴰ (held n (λ l. l) (swapped n i j file)) (held n (λ l. l) file)
  swapped_order = subst (λ l. Permᴰ l rows) swapped_two (exchanged [] rows i j less (rw rows_length within))
