-- Records by a test: the first of which it holds, and the greatest `at` of those of which it holds.
use Rattle.std.specs.Prelude.{ℕ, suc, max, Bool, cond, List, [], ◌∷◌}
use Rattle.std.proofs.Math.Option.{Option, none, some, map}
use Rattle.record.specs.declared.Record.{Record}

-- the index of the first
unfoldable pub first : (Record → Bool) → List Record → Option ℕ
first p [] = none
first p (r ∷ rs) = cond (p r) (some 0) (map suc (first p rs))

-- the greatest `at`, and 0 where the test holds of none
unfoldable pub greatest : (Record → Bool) → List Record → ℕ
greatest p [] = 0
greatest p (r ∷ rs) = cond (p r) (max r.at (greatest p rs)) (greatest p rs)
