-- The pass over a file for the latest record: what is known after so many records, a record more, and what it comes to at the end.
use Prim.Native.Nat.{ℕ, ◌+◌, ◌/◌, ◌≤◌, ◌<◌}
use mathlib.Core.Path.{◌≡◌, refl, sym, ap, ◌∙◌}
use mathlib.Core.Bool.{Bool, true, false, true≢false}
use mathlib.Core.List.{List}
use mathlib.Core.Option.{some, none}
use native.Mathlib.Omega.{arith}
use borrow.Author.Count.{below_more}
use lib.ListN.{length, get_elem?}
use Rattle.std.specs.Prelude as Prelude
use Rattle.std.specs.Prelude.{Some, None}
use Rattle.std.specs.Option.{option_map}
use Rattle.record.specs.declared.Record.{Record}
use Rattle.file.specs.File.{held, record_in}
use Rattle.lookup.specs.Force.{latest, told}
use Rattle.file.proofs.Held.{held_here, held_below, held_is}
use Rattle.lookup.proofs.Force.{is_latest, no_latest}

-- the index of the best so far, and the number that is above its `at`; nought where there is none
abbrev pub index_of : Prelude.Option (ℕ × ℕ) → ℕ
index_of None = 0
index_of (Some b) = b.0

abbrev pub above_of : Prelude.Option (ℕ × ℕ) → ℕ
above_of None = 0
above_of (Some b) = b.1 + 1

-- of the first i records those that pass stand below `above`, and if that is not nought the best is the first that stands highest
pub record Best (p : Record → Bool) (f : ℕ → Record) (i best above : ℕ) : Type 0 where
  pub below : (k : ℕ) → k < i → p (f k) ≡ true → (f k).at < above
  pub inside : 0 < above → best < i
  pub passes : 0 < above → p (f best) ≡ true
  pub highest : 0 < above → (f best).at + 1 ≡ above
  pub first : 0 < above → (k : ℕ) → k < best → p (f k) ≡ true → (f k).at + 1 < above

module _ (p : Record → Bool) (f : ℕ → Record) where
  pub nothing : Best p f 0 0 0
  nothing = record {
    below = λ k h q. absurd (omega arith);
    inside = λ h. absurd (omega arith);
    passes = λ h. absurd (omega arith);
    highest = λ h. absurd (omega arith);
    first = λ h k l q. absurd (omega arith);
  }

  -- a record that does not stand above the others changes nothing
  kept : (i best above : ℕ) → Best p f i best above → (p (f i) ≡ true → (f i).at < above) → Best p f (i + 1) best above
  kept i best above b h = record {
    below = below_more (λ k. p (f k) ≡ true → (f k).at < above) i b.below h;
    inside = λ a. let l : best < i = b.inside a in omega arith;
    passes = b.passes;
    highest = b.highest;
    first = b.first;
  }

  pub passed : (i best above : ℕ) (is : Bool) → Best p f i best above → is ≡ p (f i) → is ≡ false → Best p f (i + 1) best above
  passed i best above is b e h = kept i best above b (λ q. absurd (true≢false (sym q ∙ sym e ∙ h)))

  pub lower : (i best above at : ℕ) → Best p f i best above → at ≡ (f i).at → at < above → Best p f (i + 1) best above
  lower i best above at b e h = kept i best above b (λ q. omega arith)

  pub higher : (i best above : ℕ) (is : Bool) (at : ℕ) → Best p f i best above → is ≡ p (f i) → is ≡ true → at ≡ (f i).at → above ≤ at
      → Best p f (i + 1) i (at + 1)
  higher i best above is at b q t e h = record {
    below = below_more (λ k. p (f k) ≡ true → (f k).at < at + 1) i (λ k l u. let z : (f k).at < above = b.below k l u in omega arith) (λ u. omega arith);
    inside = λ a. omega arith;
    passes = λ a. sym q ∙ t;
    highest = λ a. omega arith;
    first = λ a k l u. let z : (f k).at < above = b.below k l u in omega arith;
  }

module _ (p : Record → Bool) (file : List ℕ) (best above : ℕ) (b : Best p (record_in file) (length file / 36) best above) where
  some_best : 0 < above → latest p (held file) ≡ some best
  some_best h =
      let top : (record_in file best).at + 1 ≡ above = b.highest h in
      is_latest p (held file) best (record_in file best) (record {
        here = held_here file best (b.inside h);
        passes = b.passes h;
        most = λ k s e q.
            let a = ap (λ (t : Record). t.at) (held_is file k s e) in
            let l : (record_in file k).at < above = b.below k (held_below file k s e) (ap p (held_is file k s e) ∙ q) in
            omega arith;
        first = λ k s e q less.
            let a = ap (λ (t : Record). t.at) (held_is file k s e) in
            let l : (record_in file k).at + 1 < above = b.first h k less (ap p (held_is file k s e) ∙ q) in
            omega arith;
      })

  no_best : above ≡ 0 → latest p (held file) ≡ none
  no_best z = no_latest p (held file) (λ k s e. go s (p s) refl (λ q. no k s e q))
    where
      no : (k : ℕ) (s : Record) → get_elem? (held file) k ≡ some s → p s ≡ true → ⊥
      no k s e q =
          let l : (record_in file k).at < above = b.below k (held_below file k s e) (ap p (held_is file k s e) ∙ q) in
          omega arith

      go : (s : Record) (x : Bool) → p s ≡ x → (p s ≡ true → ⊥) → p s ≡ false
      go s true e f = absurd (f e)
      go s false e f = e

-- at the end of the file the best is the latest
pub best_told : (p : Record → Bool) (file : List ℕ) (best : Prelude.Option (ℕ × ℕ)) → Best p (record_in file) (length file / 36) (index_of best) (above_of best)
    → option_map (λ (b : ℕ × ℕ). b.0) best ≡ told (latest p (held file))
best_told p file None b = rw (no_best p file 0 0 b refl)
best_told p file (Some e) b = rw (some_best p file e.0 (e.1 + 1) b (omega arith))
