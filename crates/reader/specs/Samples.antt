-- Worked examples of what `read` hands out, each computed from the definition.
use Rattle.std.specs.Prelude.{◌≡◌, refl, [], ◌∷◌, replicate}
use Rattle.refusal.specs.Table.{refused as refusal}
use Rattle.little.specs.Little.{little}
use Rattle.rowfile.specs.Rows.{joined}
use Rattle.record.specs.Bytes.{encoded}
use Rattle.record.specs.Made.{made, library}
use Rattle.grammar.specs.Reading.{Reading, records}
use Rattle.reader.specs.Answered.{answered, filled}

-- the reading of "VERSION 5.8 ; END LIBRARY"
abbrev one : Reading
one = records (made 1 0 0 library 0 0 5800000 0 ∷ [])

-- a buffer of 37 bytes keeps the last, and one of 35 bytes keeps them all
pub record Handed : Type 0 where
  pub told : answered 1 one ≡ refusal 0 1 0
  pub too_small : answered 0 one ≡ refusal 11 1 0
  pub laid : filled (replicate 37 9) one
      ≡ 1 ∷ 0 ∷ 0 ∷ 0 ∷ 0 ∷ 0 ∷ 0 ∷ 0 ∷ 255 ∷ 255 ∷ 255 ∷ 255 ∷ 0 ∷ 0 ∷ 0 ∷ 0 ∷ 0 ∷ 0 ∷ 0 ∷ 0 ∷ 64 ∷ 128 ∷ 88 ∷ 0 ∷ 0 ∷ 0 ∷ 0 ∷ 0 ∷ 0 ∷ 0 ∷ 0 ∷ 0 ∷ 0 ∷ 0 ∷ 0 ∷ 0 ∷ 9 ∷ []
  pub kept : filled (replicate 35 9) one ≡ replicate 35 9

pub handed : Handed
unfolding encoded little joined
handed = record { told = refl; too_small = refl; laid = refl; kept = refl }
