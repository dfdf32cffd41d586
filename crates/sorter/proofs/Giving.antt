-- Which child the sinking entry gives way to, by the tests made: one that comes after it and that the other does not come after.
use Prim.Native.Nat.{ℕ, ◌+◌, ◌*◌, ◌<◌}
use native.Mathlib.Omega.{arith}
use mathlib.Core.Path.{◌≡◌, sym, ◌∙◌}
use mathlib.Core.Logic.{⊎_elim}
use mathlib.Core.Bool.{true, false, true≢false}
use mathlib.Core.List.{List}
use Rattle.ordered.proofs.Heap.{greatest_first, greatest_second}
use Rattle.entry.specs.declared.Entry.{Entry}
use Rattle.entry.specs.Order.{precedes}
use Rattle.entry.proofs.Ordered.{precedes_order}
use Rattle.sorter.specs.Heap.{Gives}

module _ (s : List ℕ) (f : ℕ → Entry) (e : Entry) (i n : ℕ) where
  pub gives_none : (2 * i + 1 < n → precedes s e (f (2 * i + 1)) ≡ false) → (2 * i + 2 < n → precedes s e (f (2 * i + 2)) ≡ false) → Gives s f e i n n
  gives_none a b = record {
    within = omega arith;
    none = λ q d k m. ⊎_elim (λ z. rw z (a (omega arith))) (λ z. rw z (b (omega arith))) k;
    found = λ h. absurd (omega arith);
    after = λ h. absurd (omega arith);
  }

  pub gives_left : 2 * i + 1 < n → precedes s e (f (2 * i + 1)) ≡ true → (2 * i + 2 < n → precedes s (f (2 * i + 1)) (f (2 * i + 2)) ≡ false)
      → Gives s f e i n (2 * i + 1)
  gives_left h t b = record {
    within = omega arith;
    none = λ q. absurd (omega arith);
    found = λ l. greatest_first (precedes s) (precedes_order s) f i n l b;
    after = λ l. t;
  }

  gives_right : 2 * i + 2 < n → precedes s e (f (2 * i + 2)) ≡ true → precedes s (f (2 * i + 1)) (f (2 * i + 2)) ≡ true → Gives s f e i n (2 * i + 2)
  gives_right h t b = record {
    within = omega arith;
    none = λ q. absurd (omega arith);
    found = λ l. greatest_second (precedes s) (precedes_order s) f i n l b;
    after = λ l. t;
  }

  -- the left one does not come after the entry, and the right one does
  pub gives_other : 2 * i + 2 < n → precedes s e (f (2 * i + 1)) ≡ false → precedes s e (f (2 * i + 2)) ≡ true → Gives s f e i n (2 * i + 2)
  gives_other h a b =
      gives_right h b
      (⊎_elim (λ t. absurd (true≢false (sym t ∙ a))) (λ t. t) ((precedes_order s).weak e (f (2 * i + 2)) (f (2 * i + 1)) b))

  -- the left one comes after the entry, and the right one after that
  pub gives_further : 2 * i + 2 < n → precedes s e (f (2 * i + 1)) ≡ true → precedes s (f (2 * i + 1)) (f (2 * i + 2)) ≡ true → Gives s f e i n (2 * i + 2)
  gives_further h a b = gives_right h ((precedes_order s).transitive e (f (2 * i + 1)) (f (2 * i + 2)) a b) b
