-- `lines::block::on_line` meets its contract: by what the block is made of.
use mathlib.Core.Path.{ap, ◌∙◌}
use lib.Dec.{leb}
use Rattle.grammar.specs.Table.{body}
use Rattle.rows.specs.Packed.{block_of, form_in}
use Rattle.lines.proofs.Stated.{on_line_lem}
use Rattle.lines.proofs.block.on_line.Goals as goal

pub returns : goal.returns
unfolding form_in
returns c =
    ap (leb 2) c.form_of.ensures ∙ on_line_lem (body (block_of c.args.block))
