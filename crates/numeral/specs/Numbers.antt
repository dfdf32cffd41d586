-- The numbers of the answers on numerals, for every case: the refusal, 0 where there is none, and the values.
use Rattle.std.specs.Prelude.{ℕ, cond, Option, Some, None}
use Rattle.refusal.specs.Table.{done, not_numeral, text_room}
use Rattle.numeral.specs.declared.Scaled.{Scaled}

-- a value: 1 for a number below nought, and its millionths; where bytes that are no numeral stand in a text, its reader says
pub record ValueNumbers : Type 0 where
  pub refusal : ℕ
  pub negative : ℕ
  pub millionths : ℕ

abbrev pub value_numbers : Option Scaled → ValueNumbers
value_numbers (Some v) = record { refusal = done; negative = cond v.negative 1 0; millionths = v.millionths }
value_numbers None = record { refusal = not_numeral; negative = 0; millionths = 0 }

-- a numeral that was put into a buffer: the place after it
pub record WrittenNumbers : Type 0 where
  pub refusal : ℕ
  pub place : ℕ

abbrev pub written_numbers : Option ℕ → WrittenNumbers
written_numbers (Some place) = record { refusal = done; place = place }
written_numbers None = record { refusal = text_room; place = 0 }
