use Rattle.std.proofs.Common.{◌≡◌, replicate}
use Rattle.std.specs.Vec.{vec_capacity}
use Rattle.bl_queue.proofs.numbers.empty_words.Given as goal

abbrev pub invariant-loop-n : goal.invariant-loop-n
invariant-loop-n l = (l.words.items ≡ replicate l._n 0) × (vec_capacity l.words ≡ l.count)
