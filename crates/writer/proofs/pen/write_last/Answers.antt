-- `write_last` meets its contract: the records of the stretch, and then the ends of the blocks.
use mathlib.Core.Path.{sym, ap, subst}
use Rattle.reader.specs.Open.{Ranked}
use Rattle.render.specs.Pieces.{text}
use Rattle.render.specs.Lines.{end_all}
use Rattle.lines.proofs.Laws.{puts_as}
use Rattle.writer.specs.Penned.{frames_of}
use Rattle.writer.proofs.Writing.{wrote_ends}
use Rattle.writer.proofs.pen.write_last.Goals as goal

pub write_ends-requires : goal.write_ends-requires
write_ends-requires c =
    let w = c.write_stretch-open.ensures in
    subst (λ t. Ranked (frames_of t c.write_stretch-open.result c.write_stretch-open.new.outer)) (sym w.put.of) w.ranked

pub returns : goal.returns
returns c =
    let w = c.write_stretch-open.ensures in
    wrote_ends w (puts_as (ap (λ t. text (end_all (frames_of t c.write_stretch-open.result c.write_stretch-open.new.outer))) w.put.of) c.write_ends.ensures)
