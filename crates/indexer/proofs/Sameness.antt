-- The first position at which two lists of entries differ is the one that has what it says.
use Prim.Native.Nat.{ℕ, zero, suc, zero-le, suc-le-suc}
use native.Mathlib.Nat.{le_of_suc-le-suc}
use native.Mathlib.Omega.{arith}
use mathlib.Core.Path.{◌≡◌, refl, ap}
use mathlib.Core.Bool.{Bool, true, false, cond}
use mathlib.Core.List.{List, [], ◌∷◌}
use lib.ListN.{length, get_or}
use Rattle.ordered.proofs.Differing.{Differs}
use Rattle.entry.specs.declared.Entry.{Entry}
use Rattle.index.specs.Answers.{same, differ}
use Rattle.index.proofs.Compared.{same_equal, same_true}

-- the rest differs one position earlier
rest : (d e f : Entry) (k l : List Entry) (n : ℕ) → Differs d (λ i. get_or (e ∷ k) i d) (suc (length k)) (f ∷ l) (suc n) → Differs d (λ i. get_or k i d) (length k) l n
rest d e f k l n h = record {
  given = le_of_suc-le-suc h.given;
  wanted = le_of_suc-le-suc h.wanted;
  same = λ i p. h.same (suc i) (suc-le-suc p);
  stop = λ p q. h.stop (suc-le-suc p) (suc-le-suc q);
}

pub differ_found : (d : Entry) (k l : List Entry) (n : ℕ) → Differs d (λ i. get_or k i d) (length k) l n → n ≡ differ k l
unfolding differ
differ_found d [] l n h = omega (arith, h.given)
differ_found d (e ∷ k) [] n h = omega (arith, h.wanted)
differ_found d (e ∷ k) (f ∷ l) zero h = go (same e f) refl
  where
    go : (b : Bool) → same e f ≡ b → 0 ≡ cond b (suc (differ k l)) 0
    go true p = absurd (h.stop (suc-le-suc zero-le) (suc-le-suc zero-le) (same_equal e f p))
    go false p = refl
differ_found d (e ∷ k) (f ∷ l) (suc n) h =
    rw (same_true e f (h.same 0 (suc-le-suc zero-le))) (ap suc (differ_found d k l n (rest d e f k l n h)))
