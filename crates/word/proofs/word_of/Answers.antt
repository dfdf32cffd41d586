-- `word::word_of` meets its contract: turn by turn the node is that of the bytes passed, and at the end it is the word or none.
use Rattle.std.proofs.Common.{◌≡◌, ◌-◌, length, take, drop, refl, sym, ap, subst, ◌∙◌, arith}
use lib.Seq.{take_all}
use Rattle.std.specs.Slice.Iter.{chunks_rest, chunks_size}
use Rattle.word.specs.Words.{keys, values, words, upper, same, first_where}
use Rattle.word.specs.Lookup.{stems, nodes, node_of}
use Rattle.word.proofs.Words.{upper_length}
use Rattle.word.proofs.Lead.{word_here}
use Rattle.word.proofs.Turn.{Led}
use Rattle.word.proofs.Chunks.{Cut, left_few, left_stands, goes_on, is_over}
use Rattle.word.proofs.word_of.Goals as goal
use Rattle.word.proofs.word_of.Goals.{In-Some}

-- the chunk that comes is cut off what is left
cut_of : (c : In-Some) → Cut c.args.part.now (chunks_rest c.loop-chunk.chunk-iterator) c.in-Some.chunk.now (chunks_rest c.next.new.self)
cut_of c =
    let l = c.loop-chunk.invariant in
    let t = c.in-Some.ensures.steps.1 in
    record { parts = t.0; size = rw l.2 at t.1; some = t.2; few = l.3; stands = l.4 }

pub loop-chunk-init : goal.loop-chunk-init
unfolding keys values words same first_where stems nodes node_of
loop-chunk-init c =
    let s = c.args.part.now in
    let i = c.into_iter-chunk-iterator in
    let n : chunks_size i.result ≡ 6 = ap chunks_size i.ensures.into_iter_gives ∙ c.chunks-chunk-items.ensures.size in
    let e : chunks_rest i.result ≡ s = ap chunks_rest i.ensures.into_iter_gives ∙ c.chunks-chunk-items.ensures.rest in
    let z : length s - length s ≡ 0 = omega arith in (
      omega (arith, n),
      tt,
      n,
      omega (arith, ap length e),
      e ∙ ap (λ k. drop k s) (sym (ap (λ r. length s - length r) e ∙ z)),
      subst (λ k. Led (upper s) k 0) (sym (ap (λ r. length s - length r) e ∙ z))
          (record { within = omega arith; number = refl; q = 0; whole = λ h. refl; begun = λ z. refl }),
    )

pub returns-then-node-eq0 : goal.returns-then-node-eq0
returns-then-node-eq0 c =
    let l = c.loop-chunk in
    is_over _ _ _ _ (cut_of (goal.at.returns-then-node-eq0 c).In-Some) (λ i. (c.type_inv.part i).fits) l.node c.follow-node.result l.invariant.5
    c.follow-node.ensures c.if-node-eq0.true

pub loop-chunk-preserved : goal.loop-chunk-preserved
loop-chunk-preserved c =
    let l = c.loop-chunk in
    let t = cut_of (goal.at.loop-chunk-preserved c).In-Some in
    let n : chunks_size c.next.new.self ≡ 6 = c.in-Some.ensures.steps.0 ∙ l.invariant.2 in (
      omega (arith, n),
      tt,
      n,
      left_few _ _ _ _ t,
      left_stands _ _ _ _ t,
      goes_on _ _ _ _ t (λ i. (c.type_inv.part i).fits) l.node c.follow-node.result l.invariant.5 c.follow-node.ensures c.if-node-eq0.false,
    )

pub returns : goal.returns
returns c =
    let s = c.args.part.now in
    let l = c.loop-chunk in
    let z : length (chunks_rest l.chunk-iterator) ≡ 0 = c.in-None.ensures.steps.1.0 in
    let n : length s - length (chunks_rest l.chunk-iterator) ≡ length s = omega (arith, z) in
    let e : l.node ≡ node_of (upper s) =
    l.invariant.5.number ∙ ap (λ k. node_of (take k (upper s))) n ∙ ap node_of (take_all (length s) (upper s) (rw (upper_length s) (omega arith))) in
    c.word_at.ensures ∙ word_here _ _ e
