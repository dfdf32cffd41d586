-- A kind or a code that is no byte: no record that bytes hold has such a kind, so none is in force, as for a kind of which all count;
-- and such a code is of no option, as 0.
use Prim.Native.Nat.{ℕ, ◌<◌}
use mathlib.Core.Path.{◌≡◌, refl, ap, ◌∙◌}
use mathlib.Core.Bool.{Bool, true, false, cond}
use mathlib.Core.List.{List}
use mathlib.Core.Option.{some}
use native.Mathlib.Omega.{arith}
use borrow.Author.Tests.{ne_eqb, leb-false}
use lib.Dec.{leb}
use lib.ListN.{length, get_elem?}
use Rattle.little.specs.Little.{Bytes}
use Rattle.refusal.specs.declared.Refusal.{Refusal}
use Rattle.refusal.specs.Table.{refused, not_whole}
use Rattle.record.specs.declared.Record.{Record}
use Rattle.record.specs.Kinds.{SITE}
use Rattle.file.specs.File.{held, whole}
use Rattle.file.proofs.Fields.{kind_small}
use Rattle.file.proofs.Held.{held_is}
use Rattle.std.specs.Prelude.{None, Ok, Err, Option, Result}
use Rattle.lookup.specs.Force.{all_count, same_option, asked, latest, told, in_force}
use Rattle.lookup.proofs.Force.{no_latest}

not_asked : (file : List ℕ) → Bytes file → (owner kind code : ℕ) → 255 < kind → (k : ℕ) (s : Record) → get_elem? (held file) k ≡ some s
    → asked owner kind code s ≡ false
unfolding asked
not_asked file b owner kind code h k s e =
    let l : s.kind < 256 = rw (held_is file k s e) at (kind_small file k b) in
    rw (ne_eqb s.kind kind (λ z. omega arith))

same : (code d : ℕ) → 255 < code → same_option code d ≡ false
same code d h = rw (ne_eqb code 1 (λ e. omega arith), ne_eqb code 2 (λ e. omega arith), ne_eqb code 3 (λ e. omega arith))

-- a code that is no byte is asked for as 0 is
as_none : (owner kind code : ℕ) → 255 < code → (r : Record) → asked owner kind 0 r ≡ asked owner kind code r
unfolding asked
as_none owner kind code h r = rw (same code r.code h)

module _ (file : List ℕ) (owner kind code : ℕ) where
  -- an answer, where the file is whole
  abbrev answer : Option ℕ → Result (Option ℕ) Refusal
  answer a = cond (whole file) (Ok a) (Err (refused not_whole (length file) 0))

  kind_or : Bytes file → (t : Bool) → leb kind 255 ≡ t → in_force file owner (cond t kind SITE) code ≡ in_force file owner kind code
  unfolding in_force
  kind_or b true e = refl
  kind_or b false e = rw (no_latest (asked owner kind code) (held file) (not_asked file b owner kind code (leb-false kind 255 e))) (go (all_count kind))
    where
      go : (all : Bool) → answer None ≡ answer (cond all None None)
      go true = refl
      go false = refl

  code_or : (t : Bool) → leb code 255 ≡ t → in_force file owner kind (cond t code 0) ≡ in_force file owner kind code
  unfolding in_force
  code_or true e = refl
  code_or false e =
      ap (λ p. answer (cond (all_count kind) None (told (latest p (held file))))) (λ i r. as_none owner kind code (leb-false code 255 e) r i)

-- what is asked for by bytes is what is asked for
pub as_bytes : (file : List ℕ) (owner kind code : ℕ) → Bytes file
    → in_force file owner (cond (leb kind 255) kind SITE) (cond (leb code 255) code 0) ≡ in_force file owner kind code
as_bytes file owner kind code b =
    kind_or file owner kind (cond (leb code 255) code 0) b (leb kind 255) refl ∙ code_or file owner kind code (leb code 255) refl
