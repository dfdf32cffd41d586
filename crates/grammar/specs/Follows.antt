-- What stands after the first word of a value of one word or two, beside `parse_macro_class` and `parse_pin_direction`.
use Rattle.std.specs.Prelude.{ℕ, cond, List, [], ◌∷◌, eqb}
use Prim.Native.String.{String}
use Rattle.record.specs.Kinds.{MACRO_CLASS, DIRECTION}
use Rattle.word.specs.Words.{word}

pub data Follow : Type 0 where
  nothing : Follow
  optional : Follow  -- a second word; nothing where `;` is held
  required : Follow  -- a second word, whatever is held
  optional_key : String → Follow  -- this key word; nothing where `;` is held

-- a first word, and what stands after it
pub record First : Type 0 where
  pub begin : String
  pub follow : Follow

abbrev pub after : String → Follow → First
after w f = record { begin = w; follow = f }

-- `parse_macro_class`
abbrev pub class_firsts : List First
class_firsts =
    after "COVER" (optional_key "BUMP")
    ∷ after "RING" nothing
    ∷ after "BLOCK" optional
    ∷ after "PAD" optional
    ∷ after "CORE" optional
    ∷ after "ENDCAP" required
    ∷ []

-- `parse_pin_direction`
abbrev pub direction_firsts : List First
direction_firsts =
    after "INPUT" nothing
    ∷ after "OUTPUT" (optional_key "TRISTATE")
    ∷ after "INOUT" nothing
    ∷ after "FEEDTHRU" nothing
    ∷ []

-- the first words of the kinds whose values may have two
abbrev pub firsts_of : ℕ → List First
firsts_of kind = cond (eqb kind MACRO_CLASS) class_firsts (cond (eqb kind DIRECTION) direction_firsts [])

-- what stands after the word w; a word that begins no value is refused before
abbrev pub follow_in : List First → ℕ → Follow
follow_in [] w = nothing
follow_in (r ∷ rs) w = cond (eqb (word r.begin) w) r.follow (follow_in rs w)
