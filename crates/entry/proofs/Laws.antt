-- An entry in range is the entry of its bytes, and 16 bytes are the bytes of their entry.
use Prim.Native.Nat.{ℕ, ◌+◌, ◌≤◌, ◌<◌}
use mathlib.Core.Path.{◌≡◌, refl, sym, ap, ◌∙◌}
use mathlib.Core.List.{List, ◌++◌, append_assoc}
use native.Mathlib.Omega.{arith}
use lib.ListN.{length, take, drop, length-take, length-drop, take-append-drop}
use lib.Seq.{drop-drop, take_all}
use Rattle.little.specs.Little.{little, Bytes}
use Rattle.little.proofs.Laws.{number_little, little_number, number_small, take_bytes, drop_bytes}
use Rattle.record.specs.Bytes.{field}
use Rattle.entry.specs.declared.Entry.{Entry}
use Rattle.entry.specs.Entries.{encoded, decoded}

-- each field fits its bytes
pub record InRange (e : Entry) : Type 0 where
  pub owner_fits : e.owner < 4294967296
  pub name_fits : e.name < 4294967296
  pub len_fits : e.len < 4294967296
  pub at_fits : e.at < 4294967296

pub encoded_length : (e : Entry) → length (encoded e) ≡ 16
unfolding encoded little
encoded_length e = refl

-- reading back what was written
pub read_back : (e : Entry) → InRange e → decoded (encoded e) ≡ e
unfolding encoded decoded little
read_back e h =
    λ i. record {
      owner = number_little 4 e.owner h.owner_fits i;
      name = number_little 4 e.name h.name_fits i;
      len = number_little 4 e.len h.len_fits i;
      at = number_little 4 e.at h.at_fits i;
    }

-- the four bytes at o, out of their number again
part : (l : List ℕ) → Bytes l → (o : ℕ) → o + 4 ≤ length l → little 4 (field o 4 l) ≡ take 4 (drop o l)
part l h o k =
    let whole : length (take 4 (drop o l)) ≡ 4 = simp (length-take, length-drop) (omega arith) in
    rw whole at (little_number (take 4 (drop o l)) (take_bytes 4 (drop o l) (drop_bytes o l h)))

-- four bytes, and what follows them
join : (l : List ℕ) (o : ℕ) (t : List ℕ) → t ≡ drop (o + 4) l → take 4 (drop o l) ++ t ≡ drop o l
join l o t e = ap (λ u. take 4 (drop o l) ++ u) (e ∙ sym (drop-drop 4 o l)) ∙ take-append-drop 4 (drop o l)

grouped : (p q r s : List ℕ) → p ++ q ++ r ++ s ≡ p ++ (q ++ (r ++ s))
grouped p q r s = simp append_assoc

-- 16 bytes are the bytes of their entry
pub whole : (l : List ℕ) → Bytes l → length l ≡ 16 → encoded (decoded l) ≡ l
unfolding encoded decoded
whole l h k =
    let p : (o : ℕ) → o + 4 ≤ 16 → little 4 (field o 4 l) ≡ take 4 (drop o l) = λ o q. part l h o (omega arith) in
    let last : take 4 (drop 12 l) ≡ drop 12 l = take_all 4 (drop 12 l) (simp length-drop (omega arith)) in
    rw (p 0 (omega arith), p 4 (omega arith), p 8 (omega arith), p 12 (omega arith), last)
    (grouped (take 4 (drop 0 l)) (take 4 (drop 4 l)) (take 4 (drop 8 l)) (drop 12 l)
    ∙ join l 0 (take 4 (drop 4 l) ++ (take 4 (drop 8 l) ++ drop 12 l)) (join l 4 (take 4 (drop 8 l) ++ drop 12 l) (join l 8 (drop 12 l) refl)))

-- the entry of any bytes is in range
pub decoded_range : (l : List ℕ) → Bytes l → InRange (decoded l)
unfolding decoded
decoded_range l h =
    let small : (o : ℕ) → field o 4 l < 4294967296 = λ o. number_small 4 (drop o l) (drop_bytes o l h) in
    record { owner_fits = small 0; name_fits = small 4; len_fits = small 8; at_fits = small 12 }
