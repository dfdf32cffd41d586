-- The number for no index is the index of no record: a file that fits in memory has fewer records.
use Prim.Native.Nat.{ℕ, zero, suc, ◌^◌, ◌<◌}
use mathlib.Core.Path.{◌≡◌}
use mathlib.Core.List.{List, [], ◌∷◌}
use mathlib.Core.Option.{some, none-ne-some}
use native.Mathlib.Omega.{arith}
use lib.ListN.{length, get_elem?}
use Rattle.record.specs.declared.Record.{Record}
use Rattle.file.specs.File.{held}
use Rattle.file.proofs.Held.{held_length}
use Rattle.std.specs.Prelude.{Some, Ok}
use Rattle.lookup.specs.Force.{no_index, in_force}
use Rattle.lookup.proofs.Answers.{at_is}

-- what stands in a list stands below its length
below : (rs : List Record) (i : ℕ) (r : Record) → get_elem? rs i ≡ some r → i < length rs
below [] i r e = absurd (none-ne-some r e)
below (s ∷ rs) zero r e = omega arith
below (s ∷ rs) (suc i) r e =
    let l = below rs i r e in
    omega arith

pub not_none : (file : List ℕ) (owner kind code i : ℕ) → length file < 2 ^ 64 → in_force file owner kind code ≡ Ok (Some i) → i < no_index
not_none file owner kind code i h e =
    let found = at_is file owner kind code i e in
    let l = below (held file) i found.0 found.1.here in
    omega (arith, l, held_length file, h)
