use Rattle.bl_order.proofs.Conflicts.{rule_conflicts, conflicts_with_rule}
use Rattle.bl_order.proofs.laws.rules_stand_alone.Goals as goal

pub returns : goal.returns
returns c = λ rule task h. (rule_conflicts rule task h, conflicts_with_rule task rule h)
