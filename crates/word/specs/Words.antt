-- The words that the library knows, and the number of each: its place in the table, from 1.
use Rattle.std.specs.Prelude.{ℕ, suc, ◌-◌, Bool, true, false, cond, ◌&&◌, List, [], ◌∷◌, ◌++◌, map, leb, eqb, length}
use Prim.Native.String.{String}
use Rattle.text.specs.Text.{bytes}

-- the key words, those that the original names as `LefKey`
unfoldable pub keys : List String
keys =
    "LIBRARY" ∷ "VERSION" ∷ "FOREIGN" ∷ "ORIGIN" ∷ "SOURCE" ∷ "NAMESCASESENSITIVE" ∷ "NOWIREEXTENSIONATPIN" ∷ "MACRO" ∷ "END" ∷ "PIN" ∷ "PORT" ∷
    "OBS" ∷ "LAYER" ∷ "DIRECTION" ∷ "USE" ∷ "SHAPE" ∷ "PATH" ∷ "POLYGON" ∷ "RECT" ∷ "VIA" ∷ "WIDTH" ∷ "CLASS" ∷ "SYMMETRY" ∷ "ROWPATTERN" ∷ "SITE" ∷
    "SIZE" ∷ "BY" ∷ "BUSBITCHARS" ∷ "DIVIDERCHAR" ∷ "UNITS" ∷ "BEGINEXT" ∷ "TRISTATE" ∷ "INPUT" ∷ "OUTPUT" ∷ "INOUT" ∷ "FEEDTHRU" ∷ "EXCEPTPGNET" ∷
    "DESIGNRULEWIDTH" ∷ "SPACING" ∷ "BUMP" ∷ "ANTENNAMODEL" ∷ "ANTENNADIFFAREA" ∷ "ANTENNAGATEAREA" ∷ "ANTENNAPARTIALMETALAREA" ∷
    "ANTENNAPARTIALMETALSIDEAREA" ∷ "ANTENNAPARTIALCUTAREA" ∷ "ANTENNAPARTIALDIFFAREA" ∷ "ANTENNAMAXAREACAR" ∷ "ANTENNAMAXSIDEAREACAR" ∷
    "ANTENNAMAXCUTCAR" ∷ "TAPERRULE" ∷ "NETEXPR" ∷ "SUPPLYSENSITIVITY" ∷ "GROUNDSENSITIVITY" ∷ "MUSTJOIN" ∷ "PROPERTY" ∷ []

-- the other words: those of values, and those that stand inside UNITS, which is a key word itself
unfoldable pub values : List String
values =
    "ON" ∷ "OFF" ∷ "PAD" ∷ "CORE" ∷ "X" ∷ "Y" ∷ "R90" ∷ "COVER" ∷ "RING" ∷ "BLOCK" ∷ "BLACKBOX" ∷ "SOFT" ∷ "POWER" ∷ "SPACER" ∷ "AREAIO" ∷ "TIEHIGH" ∷
    "TIELOW" ∷ "ANTENNACELL" ∷ "WELLTAP" ∷ "ENDCAP" ∷ "PRE" ∷ "POST" ∷ "TOPLEFT" ∷ "TOPRIGHT" ∷ "BOTTOMLEFT" ∷ "BOTTOMRIGHT" ∷ "SIGNAL" ∷ "ANALOG" ∷
    "GROUND" ∷ "CLOCK" ∷ "ABUTMENT" ∷ "OXIDE1" ∷ "OXIDE2" ∷ "OXIDE3" ∷ "OXIDE4" ∷ "NONE" ∷ "DATABASE" ∷ "MICRONS" ∷ "TIME" ∷ "CAPACITANCE" ∷
    "RESISTANCE" ∷ "CURRENT" ∷ "VOLTAGE" ∷ "FREQUENCY" ∷ []

unfoldable pub words : List (List ℕ)
words = map bytes (keys ++ values)

-- a letter in upper case
unfoldable pub raised : ℕ → ℕ
raised b = cond (leb 97 b && leb b 122) (b - 32) b

unfoldable pub upper : List ℕ → List ℕ
upper [] = []
upper (b ∷ s) = raised b ∷ upper s

unfoldable pub same : List ℕ → List ℕ → Bool
same [] [] = true
same [] (b ∷ t) = false
same (a ∷ s) [] = false
same (a ∷ s) (b ∷ t) = eqb a b && same s t

-- the number of the first word that p holds of, where the words are numbered from n on; 0 where it holds of none
unfoldable pub first_where : (List ℕ → Bool) → ℕ → List (List ℕ) → ℕ
first_where p n [] = 0
first_where p n (w ∷ ws) = cond (p w) n (first_where p (suc n) ws)

-- the number of the word that the bytes spell, in upper or lower case; 0 where they spell none
unfoldable pub word_of : List ℕ → ℕ
word_of s = first_where (same (upper s)) 1 words

-- the number of a word as it is written in a definition
abbrev pub word : String → ℕ
word w = word_of (bytes w)

-- the key words come first
unfoldable pub is_key : ℕ → Bool
is_key k = leb 1 k && leb k (length keys)
