-- The codes of the value words: for each kind of record its words in order, the first with code 1.
use Rattle.std.specs.Prelude.{ℕ, suc, Bool, cond, ◌&&◌, eqb}
use Prim.Native.String.{String}
use mathlib.Core.List.{List, [], ◌∷◌, ◌++◌, foldr}
use Rattle.record.specs.Kinds.{NAMESCASESENSITIVE, NOWIREEXTENSIONATPIN, SITE_CLASS, SYMMETRY_WORD, MACRO_CLASS, DIRECTION, USE, SHAPE, ANTENNAMODEL, ANTENNA, PORT_CLASS, LAYER_OPTION}
use Rattle.word.specs.Words.{word}

-- a value is a word by itself, or a word with a second one
pub data Value : Type 0 where
  one : String → Value
  two : String → String → Value

-- words by themselves, and a word with each of several second words
abbrev each : List String → List Value
each [] = []
each (w ∷ ws) = one w ∷ each ws

abbrev with : String → List String → List Value
with w [] = []
with w (v ∷ vs) = two w v ∷ with w vs

-- THE VALUES, in words

abbrev macro_classes : List Value
macro_classes =
    (one "COVER" ∷ two "COVER" "BUMP" ∷ one "RING" ∷ one "BLOCK" ∷ with "BLOCK" ("BLACKBOX" ∷ "SOFT" ∷ []))
    ++ (one "PAD" ∷ with "PAD" ("INPUT" ∷ "OUTPUT" ∷ "INOUT" ∷ "POWER" ∷ "SPACER" ∷ "AREAIO" ∷ []))
    ++ (one "CORE" ∷ with "CORE" ("FEEDTHRU" ∷ "TIEHIGH" ∷ "TIELOW" ∷ "SPACER" ∷ "ANTENNACELL" ∷ "WELLTAP" ∷ []))
    ++ with "ENDCAP" ("PRE" ∷ "POST" ∷ "TOPLEFT" ∷ "TOPRIGHT" ∷ "BOTTOMLEFT" ∷ "BOTTOMRIGHT" ∷ [])

-- in the order of `parse_pin`
abbrev antenna_keys : List Value
antenna_keys =
    each (
    "ANTENNADIFFAREA" ∷ "ANTENNAGATEAREA" ∷ "ANTENNAPARTIALMETALAREA" ∷ "ANTENNAPARTIALMETALSIDEAREA" ∷ "ANTENNAPARTIALCUTAREA"
    ∷ "ANTENNAPARTIALDIFFAREA" ∷ "ANTENNAMAXAREACAR" ∷ "ANTENNAMAXSIDEAREACAR" ∷ "ANTENNAMAXCUTCAR" ∷ []
    )

-- a kind of record and its values: the first has code 1
pub record Valued : Type 0 where
  pub kind : ℕ
  pub values : List Value

abbrev has : ℕ → List Value → Valued
has k vs = record { kind = k; values = vs }

-- the values of each kind
unfoldable pub kind_values : List Valued
kind_values =
    has NAMESCASESENSITIVE (each ("ON" ∷ "OFF" ∷ []))
    ∷ has NOWIREEXTENSIONATPIN (each ("ON" ∷ "OFF" ∷ []))
    ∷ has SITE_CLASS (each ("PAD" ∷ "CORE" ∷ []))
    ∷ has SYMMETRY_WORD (each ("X" ∷ "Y" ∷ "R90" ∷ []))
    ∷ has MACRO_CLASS macro_classes
    ∷ has DIRECTION (one "INPUT" ∷ one "OUTPUT" ∷ two "OUTPUT" "TRISTATE" ∷ one "INOUT" ∷ one "FEEDTHRU" ∷ [])
    ∷ has USE (each ("SIGNAL" ∷ "ANALOG" ∷ "POWER" ∷ "GROUND" ∷ "CLOCK" ∷ []))
    ∷ has SHAPE (each ("ABUTMENT" ∷ "RING" ∷ "FEEDTHRU" ∷ []))
    ∷ has ANTENNAMODEL (each ("OXIDE1" ∷ "OXIDE2" ∷ "OXIDE3" ∷ "OXIDE4" ∷ []))
    ∷ has ANTENNA antenna_keys
    ∷ has PORT_CLASS (each ("NONE" ∷ "CORE" ∷ "BUMP" ∷ []))
    ∷ has LAYER_OPTION (each ("EXCEPTPGNET" ∷ "SPACING" ∷ "DESIGNRULEWIDTH" ∷ []))
    ∷ []

-- all of them
abbrev pub all_values : List Value
all_values = foldr (λ r vs. r.values ++ vs) [] kind_values

-- IN NUMBERS, two for each value, of which the second is 0 where there is no second word

abbrev pub numbers : List Value → List ℕ
numbers [] = []
numbers (one w ∷ vs) = word w ∷ 0 ∷ numbers vs
numbers (two w v ∷ vs) = word w ∷ word v ∷ numbers vs

-- the values of a kind; none where the table lacks it
unfoldable pub values_in : List Valued → ℕ → List ℕ
values_in [] k = []
values_in (r ∷ rs) k = cond (eqb k r.kind) (numbers r.values) (values_in rs k)

unfoldable pub values_of : ℕ → List ℕ
values_of kind = values_in kind_values kind

-- pairs of numbers, one after the other
abbrev pub flat : List (ℕ × ℕ) → List ℕ
flat [] = []
flat (v ∷ vs) = v.0 ∷ v.1 ∷ flat vs

-- whether a pair is that of two words
abbrev pub is : ℕ → ℕ → ℕ × ℕ → Bool
is first second v = eqb v.0 first && eqb v.1 second

-- the place of a value in a list, counted from n on; 0 where it is not there
unfoldable pub place_of : ℕ → List ℕ → ℕ → ℕ → ℕ
place_of n [] first second = 0
place_of n (w ∷ []) first second = 0
place_of n (w ∷ v ∷ l) first second = cond (eqb w first && eqb v second) n (place_of (suc n) l first second)

-- the code of a value of the kind, 0 where it is none
unfoldable pub code_of : ℕ → ℕ → ℕ → ℕ
code_of kind first second = place_of 1 (values_of kind) first second
