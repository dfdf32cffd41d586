-- Two that are equal to one definition are equal.
use mathlib.Core.Path.{◌≡◌, sym, ◌∙◌}

pub same : {A : Type 0} {a b c : A} → a ≡ c → b ≡ c → a ≡ b
same p q = p ∙ sym q
