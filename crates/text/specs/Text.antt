-- The bytes of a text that is written in quotes.
use Rattle.std.specs.Prelude.{ℕ, List, [], ◌∷◌}
use Prim.Native.Char.{code}
use Prim.Native.String.{String}
use Prim.Native.String.{[] as empty, ◌∷◌ as ◌▸◌}

abbrev pub bytes : String → List ℕ
bytes empty = []
bytes (c ▸ s) = code c ∷ bytes s
