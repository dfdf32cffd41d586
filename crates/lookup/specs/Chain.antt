-- The chain of owners, from a record out to the library.
use Rattle.std.specs.Prelude.{ℕ, zero, suc, Bool, cond, List, eqb, ltb, length, Result, Ok, Err}
use Rattle.std.specs.Prelude as std
use Rattle.std.proofs.Math.Option.{Option, none, some}
use Rattle.std.proofs.Math.ListN.{get_elem?}
use Rattle.refusal.specs.declared.Refusal.{Refusal}
use Rattle.refusal.specs.Table.{refused, not_whole}
use Rattle.record.specs.declared.Record.{Record}
use Rattle.file.specs.File.{held, whole, record_at}
use Rattle.lookup.specs.First.{first}

abbrev pub is_at : ℕ → Record → Bool
is_at place r = eqb r.at place

-- the record at an index that was found
abbrev pub at_index : List Record → Option ℕ → Option Record
at_index rs none = none
at_index rs (some i) = get_elem? rs i

-- the owner of a record: the first in the file whose `at` is the record's owner field; none where that is not below the record's `at`
abbrev pub owner_of : List Record → Record → Option Record
owner_of rs r = cond (ltb r.owner r.at) (at_index rs (first (is_at r.owner) rs)) none

-- an owner, if there is one, and those that it has itself
abbrev pub counted : (Record → ℕ) → Option Record → ℕ
counted owners none = 0
counted owners (some s) = suc (owners s)

-- the owners within so many steps
unfoldable pub within : ℕ → List Record → Record → ℕ
within zero rs r = 0
within (suc n) rs r = counted (λ s. within n rs s) (owner_of rs r)

-- all owners of a record: `at` falls from each to the next, so that there are no more than its `at` says
unfoldable pub owners_of : List Record → Record → ℕ
owners_of rs r = within r.at rs r

-- the same of the record that stands at an index, and 0 past the file
abbrev pub owners_found : List Record → std.Option Record → ℕ
owners_found rs (std.Some r) = owners_of rs r
owners_found rs std.None = 0

-- the answer: 13 for bytes that are no whole number of records; else how many owners were found
unfoldable pub owners : List ℕ → ℕ → Result ℕ Refusal
owners file index =
    cond (whole file) (Ok (owners_found (held file) (record_at file index))) (Err (refused not_whole (length file) 0))

-- the numbers of an answer: refusal, place and line, then the count
pub record Numbers : Type 0 where
  pub refusal : ℕ
  pub place : ℕ
  pub line : ℕ
  pub count : ℕ

abbrev pub numbers : Result ℕ Refusal → Numbers
numbers (Ok n) = record { refusal = 0; place = 0; line = 0; count = n }
numbers (Err r) = record { refusal = r.number; place = r.place; line = r.line; count = 0 }
