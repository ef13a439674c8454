use Rattle.std.proofs.Common.{◌∙◌}
use Rattle.bl_allowance.proofs.Counting.{any_ends}
use Rattle.bl_allowance.proofs.offer.has_end.Goals as goal

pub returns : goal.returns
returns c = c.contains.ensures.value ∙ any_ends c.args.bytes.now
