use Rattle.std.proofs.Common.{◌≡◌, ap, ◌∙◌, arith, length}
use Rattle.std.proofs.lemmas.List.{length-replicate}
use Rattle.bl_queue.proofs.numbers.empty_words.Goals as goal

pub push_reserved-requires : goal.push_reserved-requires
push_reserved-requires c =
    let items : length c.loop-n.words.items ≡ c.loop-n._n = ap length c.loop-n.invariant.0 ∙ length-replicate c.loop-n._n 0 in
    omega (arith, items, c.loop-n.invariant.1)
