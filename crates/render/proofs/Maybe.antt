-- None is not some, and what some has is one thing: by the cases of the engine's Maybe.
use mathlib.Core.Path.{◌≡◌, sym, subst}
use Rattle.grammar.specs.Engine.{Maybe, none, some}

abbrev Held : {A : Type 0} → Maybe A → Type 0
Held none = ⊥
Held (some a) = Unit {0}

pub none_some : {A : Type 0} {a : A} → none ≡ some a → ⊥
none_some e = subst Held (sym e) tt

pub some_eq : {A : Type 0} {a b : A} → some a ≡ some b → a ≡ b
some_eq e = cc
