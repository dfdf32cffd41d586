-- What an answer of the look-up in force says of the file: each case of it comes from one case of the definition.
use Prim.Native.Nat.{ℕ}
use mathlib.Core.Path.{◌≡◌, refl, ap, ◌∙◌}
use mathlib.Core.Bool.{Bool, true, false, true≢false, cond}
use mathlib.Core.List.{List}
use mathlib.Core.Option.{Option, some, none}
use lib.ListN.{length, get_elem?}
use Rattle.refusal.specs.Table.{refused, not_whole}
use Rattle.record.specs.declared.Record.{Record}
use Rattle.file.specs.File.{held, whole}
use Rattle.std.specs.Prelude.{Some, None, Ok, Err}
use Rattle.lookup.specs.Force.{all_count, asked, latest, Latest, told, in_force}
use Rattle.lookup.proofs.Force.{latest_is, none_is}

module _ (file : List ℕ) (owner kind code : ℕ) where
  -- an index is that of the record asked for with the greatest `at`, the first on a tie
  pub at_is : (i : ℕ) → in_force file owner kind code ≡ Ok (Some i) → (r : Record) × Latest (asked owner kind code) (held file) i r
  unfolding in_force
  at_is i h = go (whole file) (all_count kind) (latest (asked owner kind code) (held file)) refl h
    where
      go : (w a : Bool) (o : Option ℕ) → latest (asked owner kind code) (held file) ≡ o
          → cond w (Ok (cond a None (told o))) (Err (refused not_whole (length file) 0)) ≡ Ok (Some i)
          → (r : Record) × Latest (asked owner kind code) (held file) i r
      go true true o e h = absurd (cc)
      go true false none e h = absurd (cc)
      go true false (some j) e h =
          let same : j ≡ i = cc in
          latest_is (asked owner kind code) (held file) i (e ∙ ap (λ (n : ℕ). some n) same)
      go false a o e h = absurd (cc)

  -- none: all of the kind count, or no record is asked for
  pub none_asked : all_count kind ≡ false → in_force file owner kind code ≡ Ok None
      → (k : ℕ) (s : Record) → get_elem? (held file) k ≡ some s → asked owner kind code s ≡ false
  unfolding in_force
  none_asked c h = go (whole file) (all_count kind) (latest (asked owner kind code) (held file)) c refl h
    where
      go : (w a : Bool) (o : Option ℕ) → a ≡ false → latest (asked owner kind code) (held file) ≡ o
          → cond w (Ok (cond a None (told o))) (Err (refused not_whole (length file) 0)) ≡ Ok None
          → (k : ℕ) (s : Record) → get_elem? (held file) k ≡ some s → asked owner kind code s ≡ false
      go true true o c e h = absurd (true≢false c)
      go true false none c e h = none_is (asked owner kind code) (held file) e
      go true false (some j) c e h = absurd (cc)
      go false a o c e h = absurd (cc)
