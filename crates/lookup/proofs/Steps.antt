-- A step up the chain of owners: none where the owner is not below or lacks, and else one more than the owner has.
use Prim.Native.Nat.{ℕ, ◌+◌, ◌/◌, ◌≤◌, ◌<◌}
use mathlib.Core.Path.{◌≡◌, refl, sym, ap, ◌∙◌}
use mathlib.Core.Bool.{Bool, true, false, true≢false}
use mathlib.Core.List.{List}
use native.Mathlib.Omega.{arith}
use lib.ListN.{length}
use borrow.Author.Tests.{ltb-true, ltb-false}
use lib.Dec.{ltb}
use Rattle.std.specs.Option.{is_some}
use Rattle.std.specs.Prelude.{Option, Some, None}
use Rattle.record.specs.declared.Record.{Record}
use Rattle.file.specs.File.{held, record_in}
use Rattle.lookup.specs.First.{first}
use Rattle.lookup.specs.Force.{told}
use Rattle.lookup.specs.Chain.{is_at, owners_of}
use Rattle.lookup.proofs.Owned.{owner_below, not_below, no_owner, one_owner}
use Rattle.lookup.proofs.Search.{owner_there, owner_inside, owner_lacks}

module _ (file : List ℕ) (r : Record) (count : ℕ) where
  -- the owner is not below
  pub ended : r.at ≤ r.owner → count ≡ count + owners_of (held file) r
  ended h =
      let z = no_owner (held file) r (not_below (held file) r h) in
      omega arith

  module _ (below : r.owner < r.at) (next : Option ℕ) (is : next ≡ told (first (is_at r.owner) (held file))) where
    -- no record is the owner
    pub lacks : next ≡ None → count ≡ count + owners_of (held file) r
    lacks e =
        let z = no_owner (held file) r (owner_lacks file r below next is e) in
        omega arith

    module _ (i : ℕ) (e : next ≡ Some i) where
      pub inside : i < length file / 36
      inside = owner_inside file r below next is i e

      -- the owner's `at` is less
      pub lower : (record_in file i).at < r.at
      lower = owner_below (held file) r (record_in file i) (owner_there file r below next is i e)

      -- and it has one owner less
      pub further : (all : ℕ) → all ≡ count + 1 + owners_of (held file) (record_in file i) → all ≡ count + owners_of (held file) r
      further all h =
          let z = one_owner (held file) r (record_in file i) (owner_there file r below next is i e) in
          omega arith

-- what is told of the record's owner: it is nowhere where it is not below, and else the first record that starts there
module _ (file : List ℕ) (r : Record) (count : ℕ) (next : Option ℕ) (ends : r.at ≤ r.owner → next ≡ None) (goes : r.owner < r.at → next ≡ told (first (is_at r.owner) (held file))) where
  pub alone : next ≡ None → count ≡ count + owners_of (held file) r
  alone e = decide (ltb r.owner r.at) refl
    where
      decide : (t : Bool) → ltb r.owner r.at ≡ t → count ≡ count + owners_of (held file) r
      decide true t =
          let l : r.owner < r.at = ltb-true r.owner r.at t in
          lacks file r count l next (goes l) e
      decide false t = ended file r count (ltb-false r.owner r.at t)

  pub below : (i : ℕ) → next ≡ Some i → r.owner < r.at
  below i e = decide (ltb r.owner r.at) refl
    where
      decide : (t : Bool) → ltb r.owner r.at ≡ t → r.owner < r.at
      decide true t = ltb-true r.owner r.at t
      decide false t = absurd (true≢false (ap is_some (sym e ∙ ends (ltb-false r.owner r.at t))))
