-- What is stored eight bytes at a time from a place on, and a part as far as it lies in the text.
use Prim.Native.Nat.{ℕ, ◌+◌, ◌-◌, ◌≤◌, min}
use mathlib.Core.Path.{◌≡◌, sym, ap, ◌∙◌}
use mathlib.Core.List.{List}
use native.Mathlib.Omega.{arith}
use native.Mathlib.Decide.{dec_lt}
use lib.ListN.{length, take, drop, drop_of_length-le, length-take, length-drop}
use lib.Seq.{sets, length-take-le, take_all, take-add}
use Rattle.little.specs.Little.{little, number, Bytes}
use Rattle.little.proofs.Laws.{little_number, take_bytes, drop_bytes}
use Rattle.numeral.proofs.Parts.{sets_append}

-- the length of a part
pub part_length : (len start : ℕ) (s : List ℕ) → length (take len (drop start s)) ≡ min len (length s - start)
part_length len start s = length-take len (drop start s) ∙ ap (min len) (length-drop start s)

-- as far as it lies in the text
pub part_in : (len start : ℕ) (s : List ℕ) {m n : ℕ} → m ≡ min start (length s) → n ≡ min len (length (take (length s - m) (drop m s)))
    → take n (take (length s - m) (drop m s)) ≡ take len (drop start s)
part_in len start s {m} {n} e f =
    let all : take (length s - m) (drop m s) ≡ drop m s = take_all (length s - m) (drop m s) (omega (arith, length-drop m s)) in
    let g : n ≡ min len (length (drop m s)) = (rw all at f) in
    let d : drop m s ≡ drop start s = elim (dec_lt start (length s)) [
      | yes p ↦ let z : m ≡ start = omega arith in rw z
      | no p ↦ drop_of_length-le s (let h : length s ≤ m = omega arith in h) ∙ sym (drop_of_length-le s (let h : length s ≤ start = omega arith in h))
    ] in
    rw all (elim (dec_lt len (length (drop m s))) [
      | yes p ↦ let z : n ≡ len = omega arith in rw (z, d)
      | no p ↦ take_all n (drop m s) (omega arith) ∙ sym (take_all len (drop m s) (omega arith)) ∙ ap (take len) d
    ])

-- i of the bytes xs are stored, and then m more
pub some_more : (out : List ℕ) (at : ℕ) (xs : List ℕ) (i m : ℕ) → i ≤ length xs
    → sets (sets out at (take i xs)) (at + i) (take m (drop i xs)) ≡ sets out at (take (i + m) xs)
some_more out at xs i m h =
    let n : length (take i xs) ≡ i = length-take-le i xs h in
    rw (take-add i m xs, sets_append, n)

-- the bytes of the number of a part are the part
pub part_bytes : (len start : ℕ) (s : List ℕ) → Bytes s → little (min len (length s - start)) (number (take len (drop start s))) ≡ take len (drop start s)
part_bytes len start s b =
    let l = part_length len start s in
    ap (λ n. little n (number (take len (drop start s)))) (sym l) ∙ little_number (take len (drop start s)) (take_bytes len (drop start s) (drop_bytes start s b))
