use Rattle.std.proofs.Common.{◌+◌, length, arith}
use Rattle.bl_hall.proofs.Lines.{above-split}
use Rattle.bl_hall.proofs.laws.replies_go_by_lines.Goals as goal

pub returns : goal.returns
returns c = λ x session after. above-split x session after (after + 1) (omega arith) (length x.order) (λ m lt is low high. omega (arith, low, high))
