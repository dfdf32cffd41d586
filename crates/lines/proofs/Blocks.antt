-- The rows of each block pass the test, which is computed.
use mathlib.Core.Path.{refl}
use mathlib.Core.List.{[], ◌∷◌, map}
use Rattle.word.specs.Words.{keys, values, words, raised, upper, same, first_where, word_of, word}
use Rattle.word.specs.Codes.{kind_values, values_in, values_of}
use Rattle.word.specs.Spelling.{first_of}
use Rattle.grammar.specs.Grammar.{Block}
use Rattle.grammar.specs.Table.{body}
use Rattle.grammar.specs.Engine.{member}
use Rattle.grammar.proofs.Blocks.{alike, at_block}
use Rattle.rows.specs.Packed.{nth, rows_of, coded, gives, begun_by, word_of_kind}
use Rattle.rows.proofs.Laws.{words_in}
use Rattle.render.specs.Spelt.{all}
use Rattle.lines.specs.Formed.{word_at, begin_of, word_for}
use Rattle.lines.proofs.Rows.{Tested, plainly, begun, suits, distinct}

pub tested : (b : Block) → Tested (rows_of (body b))
unfolding keys values words raised upper same first_where word_of kind_values values_in values_of first_of member nth all word_at begin_of coded gives begun_by word_of_kind word_for plainly begun suits distinct
tested b = record {
  suit = at_block (λ b. all (λ w. suits (word w.begin) w.act) (rows_of b)) refl b;
  differ = at_block (λ b. distinct (words_in (rows_of b))) refl b;
  spelt = alike (λ b. map (λ w. begin_of (word w.begin)) (rows_of (body b))) (λ b. map (λ w. w.begin ∷ []) (rows_of (body b))) refl b;
}
