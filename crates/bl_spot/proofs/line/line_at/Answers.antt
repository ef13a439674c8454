use Rattle.std.proofs.Common.{◌<◌, arith}
use Rattle.bl_spot.proofs.Lines.{line_of_rest, no_line}
use Rattle.bl_spot.proofs.Parting.{empty_is, not_empty}
use Rattle.bl_spot.proofs.line.line_at.Goals as goal

pub returns-then-is_empty : goal.returns-then-is_empty
returns-then-is_empty c =
    let some : 0 < c.args.number = omega arith in
    no_line c.args.bytes.now c.args.number c.part-parted.result some c.part-parted.ensures
    (empty_is c.part-parted.result.rest.now c.is_empty.result c.is_empty.ensures c.if-is_empty.true)

pub returns-else-is_empty : goal.returns-else-is_empty
returns-else-is_empty c =
    line_of_rest c.args.bytes.now c.args.number c.part-parted.result c.first_line.result.now c.part-parted.ensures
    (not_empty c.part-parted.result.rest.now c.is_empty.result c.is_empty.ensures c.if-is_empty.false) c.first_line.ensures
