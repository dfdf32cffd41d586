-- `answer_each` meets its contract: so far the answers to the queries passed are laid from the front on.
use mathlib.Core.Path.{ap, ◌∙◌}
use mathlib.Core.Logic.{inl}
use native.Mathlib.Omega.{arith}
use lib.ListN.{length-drop}
use Rattle.std.specs.Iterator.Adapters.{enumerate_count}
use Rattle.grammar.specs.Reading.{reading}
use Rattle.index.specs.Answers.{sought}
use Rattle.index.specs.Queries.{decoded, name_in}
use Rattle.indexer.proofs.Asking.{nothing_laid, answer_laid, row_here, rest_after, row_within}
use Rattle.indexer.proofs.Finding.{indexed_climbs}
use Rattle.indexer.proofs.many.answer_each.Goals as goal

pub loop-i-init : goal.loop-i-init
loop-i-init c =
    let a = c.args in
    let i = c.into_iter-i-iterator.ensures.into_iter_gives in
    let e = c.enumerate-i-items.ensures in
    let k = c.chunks_exact.ensures in
    record {
      can = (rw (i, e.source, k.size) (omega arith), tt, inl (rw (i, e.count, e.source, k.rest, k.size) (omega arith)));
      finite = tt;
      size = rw (i, e.source, k.size);
      within = rw (i, e.count) (omega arith);
      rest = rw (i, e.source, e.count, k.rest);
      laid = rw (i, e.count) (nothing_laid a.text.now a.names.now a.queries.now a.answers.now);
    }

pub invariant_of-front : goal.invariant_of-front
invariant_of-front c = record { within = omega arith; rises = indexed_climbs c.args.text.now c.args.index.now c.requires }

pub loop-i-preserved : goal.loop-i-preserved
loop-i-preserved c =
    let a = c.args in
    let l = c.loop-i.invariant in
    let (chunk, number, next, small) = c.in-Some.ensures.steps in
    let m = enumerate_count c.loop-i.i-iterator in
    let row = row_here a.queries.now _ _ _ m l.rest chunk.1.0 (chunk.1.1 ∙ l.size) in
    let at = c.answer-at in
    let is = at.ensures ∙ ap (λ q. sought a.text.now q.owner (name_in a.names.now q) (reading a.text.now)) (c.query_of.ensures ∙ ap decoded row) in
    let within = row_within a.queries.now _ _ _ m l.rest chunk.1.0 (chunk.1.1 ∙ l.size) in
    let rest = rest_after a.queries.now _ _ _ m l.rest chunk.1.0 (chunk.1.1 ∙ l.size) in
    record {
      can = (rw (chunk.0, l.size) (omega arith), tt, inl (rw (next, chunk.0, l.size, rest, length-drop) (omega arith)));
      finite = tt;
      size = chunk.0 ∙ l.size;
      within = rw next within;
      rest = rw next rest;
      laid = rw next (answer_laid a.text.now a.names.now a.queries.now m at.result is a.answers.now c.loop-i.answers _ l.laid (rw number at c.lay.ensures));
    }
