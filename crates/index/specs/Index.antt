-- THE INDEX OF A READING: an entry for each SITE block, MACRO and PIN, sorted by owner, then by name bytes, then by `at`.
use Rattle.std.specs.Prelude.{ℕ, Bool, cond, ◌||◌, List, [], ◌∷◌, eqb}
use Rattle.ordered.specs.Order.{sorted}
use Rattle.record.specs.declared.Record.{Record}
use Rattle.record.specs.Kinds.{SITE, MACRO, PIN}
use Rattle.entry.specs.declared.Entry.{Entry}
use Rattle.entry.specs.Entries.{entry}
use Rattle.entry.specs.Order.{precedes}

-- the kinds that have an entry; the SITE statement of a macro has none
unfoldable pub entered : ℕ → Bool
entered kind = eqb kind SITE || eqb kind MACRO || eqb kind PIN

abbrev pub entry_of : Record → Entry
entry_of r = entry r.owner r.name r.len r.at

-- the entries of records, in their order
unfoldable pub entries : List Record → List Entry
entries [] = []
entries (r ∷ rs) = cond (entered r.kind) (entry_of r ∷ entries rs) (entries rs)

-- the index of the records rs of the text s
abbrev pub index_of : List ℕ → List Record → List Entry
index_of s rs = sorted (precedes s) (entries rs)
