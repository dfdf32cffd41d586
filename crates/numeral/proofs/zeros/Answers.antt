-- `numeral::zeros` meets its contract: `zeros_of` asks the same of each byte.
use Rattle.std.proofs.Common.{◌≡◌, ℕ, nat_eq, Bool, true, false, cond, List, [], ◌∷◌, ◌&&◌, Option, None, refl, sym, ◌∙◌}
use Rattle.std.specs.List.{list_all}
use Rattle.numeral.specs.declared.Scaled.{Scaled}
use Rattle.numeral.specs.Numeral.{bounded}
use Rattle.numeral.specs.Machine.{zeros_of}
use Rattle.numeral.proofs.zeros.Goals as goal

told : (negative : Bool) (x : ℕ) (s : List ℕ) (t : Bool) → list_all (λ b. nat_eq b 48) s ≡ t
    → cond {A = Option Scaled} t (bounded negative x) None ≡ zeros_of negative x s
told negative x [] t e = rw (← e) refl
told negative x (b ∷ s) t e = go (nat_eq b 48) (told negative x s t) e
  where
    go : (u : Bool) → (list_all (λ b. nat_eq b 48) s ≡ t → cond {A = Option Scaled} t (bounded negative x) None ≡ zeros_of negative x s)
        → (u && list_all (λ b. nat_eq b 48) s) ≡ t
        → cond {A = Option Scaled} t (bounded negative x) None ≡ cond {A = Option Scaled} u (zeros_of negative x s) None
    go true ih f = ih f
    go false ih f = rw (← f) refl

pub returns-then-only_zeros : goal.returns-then-only_zeros
returns-then-only_zeros c =
    let a = c.args in c.finish.ensures ∙ told a.negative a.x a.part.now true (sym c.only_zeros.ensures ∙ c.if-only_zeros.true)

pub returns-else-only_zeros : goal.returns-else-only_zeros
returns-else-only_zeros c =
    let a = c.args in told a.negative a.x a.part.now false (sym c.only_zeros.ensures ∙ c.if-only_zeros.false)
