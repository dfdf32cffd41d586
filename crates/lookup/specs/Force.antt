-- The record in force for an owner and a kind (and a code, for an option of a LAYER).
use Rattle.std.specs.Prelude.{ℕ, ◌-◌, ◌^◌, ◌≤◌, ◌<◌, ◌≡◌, Bool, true, cond, not, ◌&&◌, ◌||◌, List, eqb, leb, length, Option, Some, None, Result, Ok, Err}
use Rattle.std.proofs.Math.Option as maybe
use Rattle.std.proofs.Math.Option.{none, some}
use Rattle.std.proofs.Math.ListN.{get_elem?}
use Rattle.refusal.specs.declared.Refusal.{Refusal}
use Rattle.refusal.specs.Table.{refused, not_whole}
use Rattle.record.specs.declared.Record.{Record}
use Rattle.record.specs.Kinds.{SITE, SYMMETRY_WORD, MACRO, PIN, ANTENNA, PORT, LAYER, LAYER_OPTION, RECT, VIA, EXCEPTPGNET, SPACING, DESIGNRULEWIDTH}
use Rattle.file.specs.File.{held, whole}
use Rattle.lookup.specs.First.{first, greatest}

-- the kinds of which all records count, so that none of them is in force: 8, 11, 13, 18, 23, 24, 27, 30 to 34
abbrev pub all_count : ℕ → Bool
all_count kind =
    eqb kind SITE || eqb kind SYMMETRY_WORD || eqb kind MACRO || eqb kind PIN || eqb kind ANTENNA || eqb kind PORT || eqb kind LAYER
    || leb RECT kind && leb kind VIA

-- SPACING and DESIGNRULEWIDTH count as one
abbrev pub spaced : ℕ → Bool
spaced code = eqb code SPACING || eqb code DESIGNRULEWIDTH

-- the codes are of one option of a LAYER; EXCEPTPGNET is its own, and any other code is of none
abbrev pub same_option : ℕ → ℕ → Bool
same_option c d = eqb c EXCEPTPGNET && eqb d EXCEPTPGNET || spaced c && spaced d

-- the record is one of those that are asked for: of the kind, whatever number it has, of the owner, and for an option of a LAYER
-- of the code; for any other kind the code asked for says nothing
unfoldable pub asked : ℕ → ℕ → ℕ → Record → Bool
asked owner kind code r = eqb r.kind kind && eqb r.owner owner && (not (eqb kind LAYER_OPTION) || same_option code r.code)

-- of the records of which a test holds the first that has the greatest `at`
unfoldable pub latest : (Record → Bool) → List Record → maybe.Option ℕ
latest p rs = first (λ r. p r && eqb r.at (greatest p rs)) rs

-- the same in words: the record at the index passes the test, no record that passes has a greater `at`, and those before it that pass
-- have a smaller one
pub record Latest (p : Record → Bool) (rs : List Record) (i : ℕ) (r : Record) : Type 0 where
  pub here : get_elem? rs i ≡ some r
  pub passes : p r ≡ true
  pub most : (k : ℕ) (s : Record) → get_elem? rs k ≡ some s → p s ≡ true → s.at ≤ r.at
  pub first : (k : ℕ) (s : Record) → get_elem? rs k ≡ some s → p s ≡ true → k < i → s.at < r.at

abbrev pub told : maybe.Option ℕ → Option ℕ
told none = None
told (some i) = Some i

-- the answer: 13 for bytes that are no whole number of records; else the index of the record in force, or none
unfoldable pub in_force : List ℕ → ℕ → ℕ → ℕ → Result (Option ℕ) Refusal
in_force file owner kind code =
    cond (whole file)
    (Ok (cond (all_count kind) None (told (latest (asked owner kind code) (held file)))))
    (Err (refused not_whole (length file) 0))

-- the number that stands for no index: the largest of 64 bits, which is the index of no record
abbrev pub no_index : ℕ
no_index = 2 ^ 64 - 1

-- the numbers of an answer: refusal, place and line, then the index of the record in force
pub record Numbers : Type 0 where
  pub refusal : ℕ
  pub place : ℕ
  pub line : ℕ
  pub index : ℕ

abbrev pub numbers : Result (Option ℕ) Refusal → Numbers
numbers (Ok (Some i)) = record { refusal = 0; place = 0; line = 0; index = i }
numbers (Ok None) = record { refusal = 0; place = 0; line = 0; index = no_index }
numbers (Err r) = record { refusal = r.number; place = r.place; line = r.line; index = no_index }
