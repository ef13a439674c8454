use Rattle.std.proofs.Common.{◌∷◌, ◌<◌, length, arith, take, codes, decimal, slice_index}
use Rattle.bl_wire.specs.Replies.{label_text}
use Rattle.bl_wire.proofs.WordLaws.{label-step}
use Rattle.bl_wire.proofs.PutLaws.{puts-three}
use Rattle.bl_wire.proofs.words.put_label.Goals as goal

pub loop-number-preserved : goal.loop-number-preserved
loop-number-preserved g c =
    let path = c.args.path.now in
    let i = c.loop-number.number-index in
    let within : i < length path = omega arith in
    puts-three _ (label_text (c.args.ordinal ∷ take i path)) (codes ".") (decimal (slice_index path i)) _ _ _ _ (label-step c.args.ordinal path i within) c.loop-number.invariant c.put.ensures.puts c.put_number-in-loop-number.ensures.puts
