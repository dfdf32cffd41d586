-- Inner machinery, which nobody has to believe: what is kept of an open block.
use Rattle.std.specs.Prelude.{ℕ, cond, List, eqb, take, drop}
use Rattle.grammar.specs.Engine.{none, some, Frame as Open}
use Rattle.rows.specs.Packed.{block_of, kinds_of}
use Rattle.parser.specs.declared.open.Frame.{Frame}

-- the name of so many bytes at a place of the text
abbrev pub name_in : List ℕ → ℕ → ℕ → List ℕ
name_in s start len = take len (drop start s)

-- the open block that the code's frame is: the library has the number 0, and starts nowhere
abbrev pub frame_of : List ℕ → Frame → Open ℕ
frame_of s f =
    record {
      block = block_of f.block;
      at = cond (eqb f.block 0) none (some f.at);
      label = name_in s f.title f.len;
      lacks = kinds_of f.lacks;
    }
