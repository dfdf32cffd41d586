-- Rows laid one after the other from the front of a file on: one more goes behind those that are laid.
use Prim.Native.Nat.{ℕ, ◌+◌, ◌*◌, ◌≤◌}
use mathlib.Core.Path.{◌≡◌, refl, sym, ap, ◌∙◌}
use mathlib.Core.List.{List, [], ◌∷◌, ◌++◌, append_assoc, append-nil}
use native.Mathlib.Omega.{arith}
use lib.ListN.{length, drop}
use lib.Seq.{sets}
use Rattle.rowfile.specs.Rows.{joined}
use Rattle.rowfile.proofs.Held.{joined_length}
use Rattle.rowfile.proofs.Stored.{sets_append, sets_front}

module _ {A : Type 0} (encoded : A → List ℕ) where
  joined_append : (k l : List A) → joined encoded (k ++ l) ≡ joined encoded k ++ joined encoded l
  unfolding joined
  joined_append [] l = refl
  joined_append (r ∷ k) l = ap (◌++◌ (encoded r)) (joined_append k l) ∙ sym (append_assoc (encoded r) (joined encoded k) (joined encoded l))

  joined_one : (r : A) → joined encoded (r ∷ []) ≡ encoded r
  unfolding joined
  joined_one r = append-nil (encoded r)

  pub laid_none : (file : List ℕ) → file ≡ sets file 0 (joined encoded [])
  unfolding joined
  laid_none file = refl

  module _ (n : ℕ) (size : (r : A) → length (encoded r) ≡ n) (rs : List A) (file : List ℕ) where
    pub laid_more : (r : A) → sets (sets file 0 (joined encoded rs)) (n * length rs) (encoded r) ≡ sets file 0 (joined encoded (rs ++ r ∷ []))
    laid_more r =
        let p : n * length rs ≡ 0 + length (joined encoded rs) = rw (joined_length n encoded size rs) (omega arith) in
        ap (λ q. sets (sets file 0 (joined encoded rs)) q (encoded r)) p
        ∙ sym (sets_append (joined encoded rs) (encoded r) file 0)
        ∙ ap (sets file 0) (sym (joined_append rs (r ∷ []) ∙ ap (◌++◌ (joined encoded rs)) (joined_one r)))

    -- where there is room for all, they stand at the front, and the rest of the file is kept
    pub laid_all : n * length rs ≤ length file → sets file 0 (joined encoded rs) ≡ joined encoded rs ++ drop (length (joined encoded rs)) file
    laid_all h = sets_front (joined encoded rs) file (rw (joined_length n encoded size rs) h)
