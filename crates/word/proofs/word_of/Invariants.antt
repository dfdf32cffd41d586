-- `word::word_of` meets its contract: turn by turn the node is that of the bytes passed, and at the end it is the word or none.
use Rattle.std.proofs.Common.{◌≡◌, ◌-◌, ◌≤◌, length, drop}
use Rattle.std.specs.Slice.Iter.{chunks_rest, chunks_size}
use Rattle.word.specs.Words.{upper}
use Rattle.word.proofs.Turn.{Led}
use Rattle.word.proofs.word_of.Given as goal

abbrev pub invariant-loop-chunk : goal.invariant-loop-chunk
invariant-loop-chunk l =
    let rest = chunks_rest l.chunk-iterator in
    let at = length l.part - length rest in
    goal.iterator-loop-chunk.can_next l.chunk-iterator
    × goal.iterator-loop-chunk.is_finite l.chunk-iterator
    × (chunks_size l.chunk-iterator ≡ 6)
    × (length rest ≤ length l.part)
    × (rest ≡ drop at l.part)
    × Led (upper l.part) at l.node
