-- A record in range is the record of its bytes, and 36 bytes are the bytes of their record.
use Prim.Native.Nat.{ℕ, suc, ◌+◌, ◌-◌, ◌^◌, ◌≤◌, ◌<◌}
use mathlib.Core.Path.{◌≡◌, refl, sym, ap, ◌∙◌}
use mathlib.Core.Logic.{◌↔◌}
use mathlib.Core.List.{List, ◌∷◌, ◌++◌, append_assoc}
use native.Mathlib.Omega.{arith}
use lib.IntN.{pos, negsuc}
use lib.ListN.{length, take, drop, get_or, length-take, length-drop, take-append-drop}
use lib.Seq.{drop-drop, take_all, drop-cons}
use mir.Syntax.{w64}
use mir.ValLaws.{to_z_pos, to_z-neg}
use Rattle.little.specs.Little.{little, Bytes}
use Rattle.little.proofs.Laws.{number_little, little_number, take_bytes, drop_bytes}
use Rattle.record.specs.declared.Record.{Record}
use Rattle.record.specs.Bytes.{encoded, field, decoded}
use Rattle.record.specs.Range.{InRange, signed}

pub encoded_length : (r : Record) → length (encoded r) ≡ 36
unfolding encoded little
encoded_length r = refl

-- reading back what was written
pub read_back : (r : Record) → InRange r → decoded (encoded r) ≡ r
unfolding encoded decoded little
read_back r h =
    λ i. record {
      kind = r.kind;
      code = r.code;
      spare = number_little 2 r.spare h.spare_fits i;
      at = number_little 4 r.at h.at_fits i;
      owner = number_little 4 r.owner h.owner_fits i;
      name = number_little 4 r.name h.name_fits i;
      len = number_little 4 r.len h.len_fits i;
      x = number_little 8 r.x h.x_fits i;
      y = number_little 8 r.y h.y_fits i;
    }

-- two records in range have equal bytes exactly where they are equal
pub same_bytes : (r q : Record) → InRange r → InRange q → (encoded r ≡ encoded q) ↔ (r ≡ q)
same_bytes r q h k = (λ e. sym (read_back r h) ∙ ap decoded e ∙ read_back q k, ap encoded)

-- the n bytes at o, out of their number again
part : (l : List ℕ) → Bytes l → (o n : ℕ) → o + n ≤ length l → little n (field o n l) ≡ take n (drop o l)
part l h o n k =
    let whole : length (take n (drop o l)) ≡ n = simp (length-take, length-drop) (omega arith) in
    rw whole at (little_number (take n (drop o l)) (take_bytes n (drop o l) (drop_bytes o l h)))

-- a part, and what follows it
join : (l : List ℕ) (o n : ℕ) (t : List ℕ) → t ≡ drop (o + n) l → take n (drop o l) ++ t ≡ drop o l
join l o n t e = ap (λ u. take n (drop o l) ++ u) (e ∙ sym (drop-drop n o l)) ∙ take-append-drop n (drop o l)

grouped : (a b : ℕ) (p q r s t u v : List ℕ) → a ∷ b ∷ p ++ q ++ r ++ s ++ t ++ u ++ v ≡ a ∷ b ∷ (p ++ (q ++ (r ++ (s ++ (t ++ (u ++ v))))))
grouped a b p q r s t u v = simp append_assoc

-- 36 bytes are the bytes of their record
pub whole : (l : List ℕ) → Bytes l → length l ≡ 36 → encoded (decoded l) ≡ l
unfolding encoded decoded
whole l h k =
    let p : (o n : ℕ) → o + n ≤ 36 → little n (field o n l) ≡ take n (drop o l) = λ o n q. part l h o n (omega arith) in
    let q2 = p 2 2 (omega arith) in
    let q4 = p 4 4 (omega arith) in
    let q8 = p 8 4 (omega arith) in
    let q12 = p 12 4 (omega arith) in
    let q16 = p 16 4 (omega arith) in
    let q20 = p 20 8 (omega arith) in
    let q28 = p 28 8 (omega arith) in
    let last : take 8 (drop 28 l) ≡ drop 28 l = take_all 8 (drop 28 l) (simp length-drop (omega arith)) in
    let bytes : ◌≡◌ {A = List ℕ} (encoded (decoded l)) (get_or l 0 0 ∷ get_or l 1 0 ∷ take 2 (drop 2 l) ++ take 4 (drop 4 l) ++ take 4 (drop 8 l) ++ take 4 (drop 12 l) ++ take 4 (drop 16 l) ++ take 8 (drop 20 l) ++ take 8 (drop 28 l))
    = λ i. get_or l 0 0 ∷ get_or l 1 0 ∷ q2 i ++ q4 i ++ q8 i ++ q12 i ++ q16 i ++ q20 i ++ q28 i in
    bytes
    ∙ grouped (get_or l 0 0) (get_or l 1 0) (take 2 (drop 2 l)) (take 4 (drop 4 l)) (take 4 (drop 8 l)) (take 4 (drop 12 l)) (take 4 (drop 16 l)) (take 8 (drop 20 l)) (take 8 (drop 28 l))
    ∙ ap (λ t. get_or l 0 0 ∷ get_or l 1 0 ∷ t) (join l 2 2 _ (join l 4 4 _ (join l 8 4 _ (join l 12 4 _ (join l 16 4 _ (join l 20 8 _ last))))))
    ∙ sym (drop-cons l 0 0 (omega arith) ∙ ap (◌∷◌ (get_or l 0 0)) (drop-cons l 1 0 (omega arith)))

-- a field of 63 bits is itself, and 2 ^ 64 less m is minus m
pub signed_plus : (m : ℕ) → m < 2 ^ 63 → signed m ≡ pos m
signed_plus m h = to_z_pos w64 m h

pub signed_minus : (m : ℕ) → m < 2 ^ 63 → signed (2 ^ 64 - suc m) ≡ negsuc m
signed_minus m h = to_z-neg w64 m h
