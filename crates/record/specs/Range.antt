-- Which records 36 bytes can hold.
use Rattle.std.specs.Prelude.{ℕ, ◌^◌, ◌<◌, ℤ}
use Rattle.std.specs.Int.{w64}
use Rattle.std.proofs.Common.{to_z}
use Rattle.record.specs.declared.Record.{Record}

-- each field fits its bytes
pub record InRange (r : Record) : Type 0 where
  pub kind_fits : r.kind < 256
  pub code_fits : r.code < 256
  pub spare_fits : r.spare < 2 ^ 16
  pub at_fits : r.at < 2 ^ 32
  pub owner_fits : r.owner < 2 ^ 32
  pub name_fits : r.name < 2 ^ 32
  pub len_fits : r.len < 2 ^ 32
  pub x_fits : r.x < 2 ^ 64
  pub y_fits : r.y < 2 ^ 64

-- the signed number that a field x or y holds: below 2 ^ 63 the field itself, and from there on the field less 2 ^ 64
abbrev pub signed : ℕ → ℤ
signed field = to_z w64 field
