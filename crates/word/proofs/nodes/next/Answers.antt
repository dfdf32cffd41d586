-- `word::nodes::next` meets its contract: each row of the table has a key and its place in the list, and every key of the list has its row.
use Rattle.std.proofs.Common.{◌≡◌, ℕ, suc, ◌+◌, ◌<◌, ◌≤◌, ◌&&◌, nat_eq, nat_lt, true, List, [], ◌∷◌, length, get_or, refl, sym, ap, cond, arith, rules, ◌∙◌}
use borrow.Author.Tests.{eqb-true, ltb-true}
use Rattle.std.proofs.lemmas.List.Sorted.{answers_always}
use Rattle.word.specs.declared.nodes.TheConstants.{NODES}
use Rattle.word.specs.Lookup.{keyed, place_in, next_of}
use Rattle.word.proofs.Sorted.{none, found, missed}
use Rattle.word.proofs.Words.{both}
use Rattle.word.proofs.Steps.{absent}
use Rattle.word.proofs.Spelt.{below, below_at}
use Rattle.word.proofs.nodes.next.Goals as goal

-- every row has a key of the list and its place
placed : below (λ i. nat_eq (next_of (get_or NODES i none).0) (get_or NODES i none).1) 154 ≡ true
unfolding keyed place_in next_of
placed = refl

-- the row of a node
row_in : List (ℕ × ℕ) → ℕ → ℕ
row_in [] k = 0
row_in (r ∷ rs) k = cond (nat_eq r.1 k) 0 (suc (row_in rs k))

-- every key of the list has a row
listed : below (λ j. nat_lt (row_in NODES (suc j)) 154 && nat_eq (get_or NODES (row_in NODES (suc j)) none).0 (get_or keyed j 0)) 154 ≡ true
unfolding keyed row_in
listed = refl

-- the keys rise
sorted : below (λ i. nat_lt (get_or NODES i none).0 (get_or NODES (i + 1) none).0) 153 ≡ true
sorted = refl

rising : (i : ℕ) → i + 1 < length NODES → (get_or NODES i none).0 ≤ (get_or NODES (i + 1) none).0
rising i h =
    let l = ltb-true _ _ (below_at (λ i. nat_lt (get_or NODES i none).0 (get_or NODES (i + 1) none).0) 153 sorted i (omega arith)) in
    omega arith

pub returns-in-Ok : goal.returns-in-Ok
returns-in-Ok c =
    let p = c.in-Ok.ensures.position (λ row. row.0) (answers_always _ _ _ (λ f a r g called. search rules)) in
    let e : (get_or NODES c.in-Ok.i none).0 ≡ c.args.key = found NODES rising c.args.key c.in-Ok.i p in
    let i : c.in-Ok.i < 154 = c.in-Ok.ensures.bound in
    sym (eqb-true _ _ (below_at (λ i. nat_eq (next_of (get_or NODES i none).0) (get_or NODES i none).1) 154 placed c.in-Ok.i i)) ∙ ap next_of e

pub returns-in-Err : goal.returns-in-Err
unfolding next_of keyed
returns-in-Err c =
    let p = c.in-Err.ensures.position (λ row. row.0) (answers_always _ _ _ (λ f a r g called. search rules)) in
    sym (absent c.args.key 1 keyed (λ j h e.
    let t = both _ _ (below_at (λ j. nat_lt (row_in NODES (suc j)) 154 && nat_eq (get_or NODES (row_in NODES (suc j)) none).0 (get_or keyed j 0)) 154 listed j h) in
    missed NODES rising c.args.key c.in-Err.field-0 p (row_in NODES (suc j)) (ltb-true _ _ t.0) (eqb-true _ _ t.1 ∙ e)))
