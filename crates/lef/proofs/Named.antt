-- The bytes of the text in the span of a name are the name: both are cut at the same test, and a span of 0 bytes is empty.
use Prim.Native.Nat.{ℕ, ◌+◌}
use mathlib.Core.Path.{◌≡◌, refl}
use mathlib.Core.Bool.{Bool, true, false, cond}
use mathlib.Core.List.{List, []}
use lib.Dec.{leb}
use lib.ListN.{length, take, drop}
use Rattle.std.specs.Prelude.{Option, Some, None}
use Rattle.record.specs.declared.Record.{Record}
use Rattle.file.specs.File.{record_at}
use Rattle.lookup.specs.Name.{part, name_of, name_at}
use Rattle.lef.specs.declared.told.Span.{Span}
use Rattle.lef.specs.Border.{span, inside, span_of, name_span}

-- the bytes of a span
abbrev pub bytes_in : List ℕ → Span → List ℕ
bytes_in text s = take s.len (drop s.start text)

inside_is : (text : List ℕ) (start len : ℕ) → bytes_in text (inside (length text) start len) ≡ part text start len
unfolding inside part
inside_is text start len = go (leb (start + len) (length text))
  where
    go : (b : Bool) → bytes_in text (cond b (span start len) (span 0 0)) ≡ cond b (take len (drop start text)) []
    go true = refl
    go false = refl

found : (text : List ℕ) (f : Option Record) → bytes_in text (span_of text f) ≡ name_of text f
found text (Some r) = inside_is text r.name r.len
found text None = refl

pub named : (text file : List ℕ) (index : ℕ) → take (name_span text file index).len (drop (name_span text file index).start text) ≡ name_at text file index
named text file index = found text (record_at file index)
