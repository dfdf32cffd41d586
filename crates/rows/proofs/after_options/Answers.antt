-- `rows::after_options` meets its contract: only the options turn into another block.
use mathlib.Core.Path.{◌≡◌, refl}
use Rattle.grammar.specs.Grammar.{Block, Layer}
use Rattle.grammar.specs.Table.{body}
use Rattle.grammar.proofs.Blocks.{alike}
use Rattle.rows.specs.Packed.{block_of, next_of, after_in}
use Rattle.rows.proofs.after_options.Goals as goal

always : (b : Block) → Layer ≡ next_of (body b)
unfolding next_of
always = alike (λ b. Layer) (λ b. next_of (body b)) refl

pub returns : goal.returns
unfolding block_of after_in
returns c =
    always (block_of c.args.block)
