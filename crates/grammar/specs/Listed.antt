-- Which records the rules list: the kinds from 1 to 34, and the codes that each of them has.
use Rattle.std.specs.Prelude.{ℕ, ◌≡◌, Bool, cond, ◌&&◌, List, [], ◌∷◌, map, leb, eqb, length}
use Rattle.record.specs.Kinds.{VERSION, FOREIGN, VIA}
use Rattle.word.specs.Codes.{kind_values}
use Rattle.numeral.specs.Numeral.{scaled, Good}
use Rattle.numeral.specs.Stored.{stored_of}

-- the codes of a kind: from the least to the greatest
pub record Codes : Type 0 where
  pub kind : ℕ
  pub least : ℕ
  pub greatest : ℕ

abbrev codes : ℕ → ℕ → ℕ → Codes
codes k l g = record { kind = k; least = l; greatest = g }

-- The kinds that have codes. A FOREIGN has 1 where a point follows, else 0; a kind of the table of values has one code for each of its
-- values, from 1 on.
unfoldable pub kind_codes : List Codes
kind_codes = codes FOREIGN 0 1 ∷ map (λ r. codes r.kind 1 (length r.values)) kind_values

-- does the kind have the code? A kind that the table lacks has 0 alone.
unfoldable pub allows : List Codes → ℕ → ℕ → Bool
allows [] k c = eqb c 0
allows (r ∷ rs) k c = cond (eqb r.kind k) (leb r.least c && leb c r.greatest) (allows rs k c)

unfoldable pub listed : ℕ → ℕ → Bool
listed k c = (leb VERSION k && leb k VIA) && allows kind_codes k c

-- a field that holds the stored value of a numeral within the limit; 0 is one
pub record Stored (field : ℕ) : Type 0 where
  pub negative : Bool
  pub magnitude : ℕ
  pub within : Good (scaled negative magnitude)
  pub is : field ≡ stored_of negative magnitude
