-- The first record of a test in a file, as a search finds it: none of those passed, and this one or no other.
use Prim.Native.Nat.{ℕ, ◌/◌, ◌<◌}
use mathlib.Core.Path.{◌≡◌, refl, sym, ap, ◌∙◌}
use mathlib.Core.Bool.{Bool, true, false}
use mathlib.Core.List.{List}
use mathlib.Core.Option.{Option, some, none}
use borrow.Author.Tests.{lt-ltb}
use lib.ListN.{length}
use Rattle.std.specs.Prelude as Prelude
use Rattle.std.specs.Prelude.{Some, None}
use Rattle.record.specs.declared.Record.{Record}
use Rattle.file.specs.File.{held, record_in}
use Rattle.lookup.specs.First.{first}
use Rattle.lookup.specs.Force.{told}
use Rattle.lookup.specs.Chain.{is_at, owner_of}
use Rattle.file.proofs.Held.{held_here, held_below, held_is}
use Rattle.lookup.proofs.First.{is_first, no_first, first_there}

module _ (file : List ℕ) (p : Record → Bool) where
  pub hit : (i : ℕ) → i < length file / 36 → p (record_in file i) ≡ true → ((k : ℕ) → k < i → p (record_in file k) ≡ false)
      → first p (held file) ≡ some i
  hit i h q f = is_first p (held file) i (record_in file i) (held_here file i h) q (λ k s e l. sym (ap p (held_is file k s e)) ∙ f k l)

  pub miss : ((k : ℕ) → k < length file / 36 → p (record_in file k) ≡ false) → first p (held file) ≡ none
  miss f = no_first p (held file) (λ k s e. sym (ap p (held_is file k s e)) ∙ f k (held_below file k s e))

-- what is told of an index, read back
told_some : (o : Option ℕ) (i : ℕ) → Some i ≡ told o → o ≡ some i
told_some none i e = absurd (cc)
told_some (some j) i e = cc

told_none : (o : Option ℕ) → None ≡ told o → o ≡ none
told_none none e = refl
told_none (some j) e = absurd (cc)

-- the owner by the index that the search gives, if it gives one
module _ (file : List ℕ) (r : Record) (below : r.owner < r.at) (o : Prelude.Option ℕ) (is : o ≡ told (first (is_at r.owner) (held file))) where
  pub owner_lacks : o ≡ None → owner_of (held file) r ≡ none
  owner_lacks e = rw (lt-ltb r.owner r.at below, told_none (first (is_at r.owner) (held file)) (sym e ∙ is))

  module _ (i : ℕ) (e : o ≡ Some i) where
    here : first (is_at r.owner) (held file) ≡ some i
    here = told_some (first (is_at r.owner) (held file)) i (sym e ∙ is)

    pub owner_inside : i < length file / 36
    owner_inside =
        let w = first_there (is_at r.owner) (held file) i here in
        held_below file i w.0 w.1

    pub owner_there : owner_of (held file) r ≡ some (record_in file i)
    owner_there = rw (lt-ltb r.owner r.at below, here) (held_here file i owner_inside)
