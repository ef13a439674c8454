use Rattle.std.proofs.Common.{◌∙◌}
use Rattle.bl_policy.proofs.policy.Subject.cell.Goals as goal

pub returns : goal.returns
returns c = c.cell_from.ensures ∙ c.failures.ensures c.args.modes
