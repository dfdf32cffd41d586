-- WHICH ENTRY COMES FIRST: by owner, then by name bytes, then by `at`.
use Rattle.std.specs.Prelude.{ℕ, Bool, true, false, ◌&&◌, ◌||◌, List, [], ◌∷◌, eqb, ltb}
use Rattle.lookup.specs.Name.{part}
use Rattle.entry.specs.declared.Entry.{Entry}

-- what entries are sorted by
pub record Key : Type 0 where
  pub owner : ℕ
  pub name : List ℕ
  pub at : ℕ

abbrev pub key : ℕ → List ℕ → ℕ → Key
key owner name at = record { owner = owner; name = name; at = at }

-- the name of an entry is that part of the text, and empty where its span reaches outside
abbrev pub name_of : List ℕ → Entry → List ℕ
name_of s e = part s e.name e.len

abbrev pub key_of : List ℕ → Entry → Key
key_of s e = key e.owner (name_of s e) e.at

-- names go by their bytes, as unsigned numbers and in exact case; a prefix is ahead of the longer
unfoldable pub ahead : List ℕ → List ℕ → Bool
ahead a [] = false
ahead [] (c ∷ b) = true
ahead (d ∷ a) (c ∷ b) = ltb d c || (eqb d c && ahead a b)

unfoldable pub alike : List ℕ → List ℕ → Bool
alike [] [] = true
alike [] (c ∷ b) = false
alike (d ∷ a) [] = false
alike (d ∷ a) (c ∷ b) = eqb d c && alike a b

-- owners as unsigned numbers, so that what the library owns comes last
unfoldable pub before : Key → Key → Bool
before x y =
    ltb x.owner y.owner
    || (eqb x.owner y.owner && (ahead x.name y.name || (alike x.name y.name && ltb x.at y.at)))

-- one entry comes before another
abbrev pub precedes : List ℕ → Entry → Entry → Bool
precedes s e f = before (key_of s e) (key_of s f)
