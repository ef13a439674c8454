use Rattle.bl_policy.proofs.Rules.{none-permits, some-fails}
use Rattle.bl_policy.proofs.laws.rule_fault_is_the_first.Goals as goal

pub returns-clause-none : goal.returns-clause-none
returns-clause-none c = none-permits c.dominates_means_dominance.ensures

pub returns-clause-some : goal.returns-clause-some
returns-clause-some c = some-fails c.dominates_means_dominance.ensures
