-- `write_stretch` meets its contract: the records before k are written.
use mathlib.Core.List.{map}
use Rattle.file.specs.File.{front}
use Rattle.reader.specs.Open.{blocks_of}
use Rattle.render.specs.Plain.{bare}
use Rattle.writer.specs.Penned.{Wrote}
use Rattle.writer.proofs.pen.write_stretch.Given as goal

abbrev pub invariant-loop-k : goal.invariant-loop-k
invariant-loop-k l =
    Wrote l.initial.page.text.now (blocks_of l.initial.page.text.now l.initial.open l.initial.outer) (map (bare l.initial.page.text.now) (front l.k l.w)) l.initial.page l.«open» l.outer l.page
