-- What the rows of a file hold: the front of a file is its first row, and what is behind it holds the others.
use Prim.Native.Nat.{ℕ, zero, suc, ◌+◌, ◌*◌, ◌%◌, ◌≤◌, ◌<◌}
use mathlib.Core.Path.{◌≡◌, refl, sym, ap, ap₂, ◌∙◌}
use mathlib.Core.Bool.{true}
use mathlib.Core.List.{List, [], ◌∷◌, ◌++◌, map, Memᴰ}
use mathlib.Core.Option.{some, none, none-ne-some}
use native.Mathlib.Nat.{zero-add, mul-zero, mul-mod_right, mul-div_right, div-add-mod, le_of_suc-le-suc, not-suc-le-zero}
use native.Mathlib.Omega.{arith}
use borrow.Author.Tests.{eq-eqb, eqb-true}
use lib.ListN.{length, take, drop, get_or, get_elem?, length-append, length-take, length-drop, take-append-drop}
use lib.Seq.{drop-drop, take_at, drop_at}
use Rattle.little.specs.Little.{Bytes}
use Rattle.little.proofs.Laws.{take_bytes, drop_bytes}
use Rattle.rowfile.specs.Rows.{count, whole, row_at, front, held, joined}
use Rattle.rowfile.proofs.Parts.{next}

-- the row at an index, behind the first row
behind : (n : ℕ) (file : List ℕ) (i : ℕ) → row_at n (drop n file) i ≡ row_at n file (suc i)
behind n file i = ap (take n) (drop-drop (n * i) n file ∙ ap (λ k. drop k file) (next n i))

-- ROWS THROUGH WHAT THEY HOLD

module _ {A : Type 0} (n : ℕ) (decoded : List ℕ → A) where
  pub front_length : (m : ℕ) (file : List ℕ) → length (front n decoded m file) ≡ m
  unfolding front
  front_length zero file = refl
  front_length (suc m) file = ap suc (front_length m (drop n file))

  pub held_length : (file : List ℕ) → length (held n decoded file) ≡ count n file
  held_length file = front_length (count n file) file

  pub front_at : (m : ℕ) (file : List ℕ) (d : A) (i : ℕ) → i < m → get_or (front n decoded m file) i d ≡ decoded (row_at n file i)
  unfolding front
  front_at zero file d i h = absurd (not-suc-le-zero h)
  front_at (suc m) file d zero h = rw (mul-zero n)
  front_at (suc m) file d (suc i) h = front_at m (drop n file) d i (le_of_suc-le-suc h) ∙ ap decoded (behind n file i)

  pub held_at : (file : List ℕ) (d : A) (i : ℕ) → i < count n file → get_or (held n decoded file) i d ≡ decoded (row_at n file i)
  held_at file d i h = front_at (count n file) file d i h

  -- at each index below the count something is held, and at no other
  front_here : (m : ℕ) (file : List ℕ) (i : ℕ) → i < m → get_elem? (front n decoded m file) i ≡ some (decoded (row_at n file i))
  unfolding front
  front_here zero file i h = absurd (not-suc-le-zero h)
  front_here (suc m) file zero h = rw (mul-zero n)
  front_here (suc m) file (suc i) h = front_here m (drop n file) i (le_of_suc-le-suc h) ∙ ap (λ l. some (decoded l)) (behind n file i)

  front_past : (m : ℕ) (file : List ℕ) (i : ℕ) → m ≤ i → get_elem? (front n decoded m file) i ≡ none
  unfolding front
  front_past zero file i h = refl
  front_past (suc m) file zero h = absurd (omega arith)
  front_past (suc m) file (suc i) h = front_past m (drop n file) i (omega arith)

  front_below : (m : ℕ) (file : List ℕ) (i : ℕ) (r : A) → get_elem? (front n decoded m file) i ≡ some r → i < m
  unfolding front
  front_below zero file i r h = absurd (none-ne-some r h)
  front_below (suc m) file zero r h = omega arith
  front_below (suc m) file (suc i) r h =
      let l = front_below m (drop n file) i r h in
      omega arith

  pub held_here : (file : List ℕ) (i : ℕ) → i < count n file → get_elem? (held n decoded file) i ≡ some (decoded (row_at n file i))
  held_here file i h = front_here (count n file) file i h

  pub held_past : (file : List ℕ) (i : ℕ) → count n file ≤ i → get_elem? (held n decoded file) i ≡ none
  held_past file i h = front_past (count n file) file i h

  pub held_below : (file : List ℕ) (i : ℕ) (r : A) → get_elem? (held n decoded file) i ≡ some r → i < count n file
  held_below file i r h = front_below (count n file) file i r h

  pub held_is : (file : List ℕ) (i : ℕ) (r : A) → get_elem? (held n decoded file) i ≡ some r → decoded (row_at n file i) ≡ r
  held_is file i r h =
      let here = held_here file i (held_below file i r h) in
      cc

  -- more rows: the first ones, and those behind them
  pub front_append : (a b : ℕ) (file : List ℕ) → front n decoded (a + b) file ≡ front n decoded a file ++ front n decoded b (drop (n * a) file)
  unfolding front
  front_append zero b file = rw (zero-add, mul-zero)
  front_append (suc a) b file =
      let e : suc a + b ≡ suc (a + b) = omega arith in
      rw e (ap (◌∷◌ (decoded (take n file))) (front_append a b (drop n file)
      ∙ ap (λ l. front n decoded a (drop n file) ++ front n decoded b l) (drop-drop (n * a) n file ∙ ap (λ k. drop k file) (next n a))))

  -- what rows hold, each through a function
  pub front_map : {B : Type 0} (f : A → B) (m : ℕ) (file : List ℕ) → map f (front n decoded m file) ≡ front n (λ l. f (decoded l)) m file
  unfolding front
  front_map f zero file = refl
  front_map f (suc m) file = ap (◌∷◌ (f (decoded (take n file)))) (front_map f m (drop n file))

  -- a list whose elements the rows hold is what the rows hold
  pub front_all : (d : A) (rs : List A) (file : List ℕ) → ((k : ℕ) → k < length rs → decoded (row_at n file k) ≡ get_or rs k d) → front n decoded (length rs) file ≡ rs
  unfolding front
  front_all d [] file h = refl
  front_all d (r ∷ rs) file h =
      ap₂ ◌∷◌ (rw mul-zero at (h 0 (omega arith))) (front_all d rs (drop n file) (λ k l. ap decoded (behind n file k) ∙ h (suc k) (omega arith)))

-- THE BYTES OF ROWS, AND THE ROWS OF BYTES

module _ {A : Type 0} (n : ℕ) (encoded : A → List ℕ) (size : (r : A) → length (encoded r) ≡ n) where
  pub joined_length : (rs : List A) → length (joined encoded rs) ≡ n * length rs
  unfolding joined
  joined_length [] = sym (mul-zero n)
  joined_length (r ∷ rs) = length-append (encoded r) (joined encoded rs) ∙ rw (size r, joined_length rs) (next n (length rs))

  pub joined_whole : (rs : List A) → whole n (joined encoded rs) ≡ true
  joined_whole rs = eq-eqb (length (joined encoded rs) % n) 0 (rw (joined_length rs) (mul-mod_right n (length rs)))

  pub joined_count : 0 < n → (rs : List A) → count n (joined encoded rs) ≡ length rs
  joined_count p rs = rw (joined_length rs) (mul-div_right (length rs) p)

  -- the bytes at an index are those of the row there
  pub joined_at : (rs : List A) (d : A) (i : ℕ) → i < length rs → row_at n (joined encoded rs) i ≡ encoded (get_or rs i d)
  unfolding joined
  joined_at [] d i h = absurd (not-suc-le-zero h)
  joined_at (r ∷ rs) d zero h = rw mul-zero (take_at (encoded r) (joined encoded rs) n (size r))
  joined_at (r ∷ rs) d (suc i) h =
      sym (behind n (encoded r ++ joined encoded rs) i)
      ∙ ap (λ l. row_at n l i) (drop_at (encoded r) (joined encoded rs) n (size r))
      ∙ joined_at rs d i (le_of_suc-le-suc h)

  module _ (decoded : List ℕ → A) where
    front_joined : (rs : List A) → ((r : A) → Memᴰ r rs → decoded (encoded r) ≡ r) → front n decoded (length rs) (joined encoded rs) ≡ rs
    unfolding front joined
    front_joined [] h = refl
    front_joined (r ∷ rs) h =
        ap₂ ◌∷◌ (ap decoded (take_at (encoded r) (joined encoded rs) n (size r)) ∙ h r (Memᴰ.head refl))
        (ap (front n decoded (length rs)) (drop_at (encoded r) (joined encoded rs) n (size r)) ∙ front_joined rs (λ q m. h q (Memᴰ.tail m)))

    -- the bytes of rows that are read back hold what the rows held
    pub held_joined : 0 < n → (rs : List A) → ((r : A) → Memᴰ r rs → decoded (encoded r) ≡ r) → held n decoded (joined encoded rs) ≡ rs
    held_joined p rs h = ap (λ k. front n decoded k (joined encoded rs)) (joined_count p rs) ∙ front_joined rs h

empty : (l : List ℕ) → length l ≡ 0 → [] ≡ l
empty [] h = refl
empty (b ∷ l) h = absurd (omega arith)

-- where n bytes are the bytes of what they hold, a file in whole rows is the bytes of what it holds
module _ {A : Type 0} (n : ℕ) (encoded : A → List ℕ) (decoded : List ℕ → A)
    (back : (l : List ℕ) → Bytes l → length l ≡ n → encoded (decoded l) ≡ l) where
  joined_front : (m : ℕ) (file : List ℕ) → Bytes file → length file ≡ n * m → joined encoded (front n decoded m file) ≡ file
  unfolding front joined
  joined_front zero file b h = empty file (h ∙ mul-zero n)
  joined_front (suc m) file b h =
      let all : length file ≡ n + n * m = h ∙ sym (next n m) in
      let first : length (take n file) ≡ n = simp (length-take) (omega arith) in
      let left : length (drop n file) ≡ n * m = simp (length-drop) (omega arith) in
      ap₂ ◌++◌ (back (take n file) (take_bytes n file b) first) (joined_front m (drop n file) (drop_bytes n file b) left) ∙ take-append-drop n file

  pub joined_held : (file : List ℕ) → Bytes file → whole n file ≡ true → joined encoded (held n decoded file) ≡ file
  joined_held file b h =
      joined_front (count n file) file b (omega (arith, div-add-mod (length file) n, eqb-true (length file % n) 0 h))

-- a file in whole rows is its rows, one after the other
rows_front : (n m : ℕ) (file : List ℕ) → length file ≡ n * m → joined (λ l. l) (front n (λ l. l) m file) ≡ file
unfolding front joined
rows_front n zero file h = empty file (h ∙ mul-zero n)
rows_front n (suc m) file h =
    let left : length (drop n file) ≡ n * m = simp (length-drop) (omega (arith, next n m)) in
    ap (◌++◌ (take n file)) (rows_front n m (drop n file) left) ∙ take-append-drop n file

pub joined_rows : (n : ℕ) (file : List ℕ) → whole n file ≡ true → joined (λ l. l) (held n (λ l. l) file) ≡ file
joined_rows n file h = rows_front n (count n file) file (omega (arith, div-add-mod (length file) n, eqb-true (length file % n) 0 h))
