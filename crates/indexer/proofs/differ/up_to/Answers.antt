-- `up_to` meets its contract: those that do not come after the entry are counted.
use mathlib.Core.Bool.{not}
use mathlib.Core.Path.{◌∙◌, refl}
use mathlib.Core.Logic.{inl}
use native.Mathlib.Omega.{arith}
use Rattle.std.proofs.Common.{rules, tests}
use Rattle.std.proofs.lemmas.Iterator.Consumers.{count_from_yields_List, YieldsList-from_filter, YieldsList-from_first, YieldsList-at}
use Rattle.ordered.proofs.Fronts.{upto_filter}
use Rattle.entry.specs.Order.{precedes}
use Rattle.indexer.proofs.Filling.{left, left_few}
use Rattle.indexer.proofs.differ.up_to.Goals as goal

pub count-requires-clause-fits : goal.count-requires-clause-fits
count-requires-clause-fits c = inl (rw c.filter.ensures.source (omega (arith, left_few c.args.records.now)))

pub returns : goal.returns
returns c =
    let a = c.args in
    count_from_yields_List _ _ c.count.ensures.ran
    (YieldsList-from_filter _ (λ f. not (precedes a.text.now a.e f)) (YieldsList-at c.filter.ensures.source (YieldsList-from_first (λ x. x) (λ s. left s.0.now) (left a.records.now) refl)) c.filter.ensures.closure (λ x r q k. search (rules, tests)))
    ∙ upto_filter (precedes a.text.now) a.e (left a.records.now)
