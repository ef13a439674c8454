use Rattle.bl_policy.proofs.Properties.{all-of_none, none-of_all, first-of_some}
use Rattle.bl_policy.proofs.laws.first_fault_is_the_first.Goals as goal

pub returns-clause-none : goal.returns-clause-none
returns-clause-none c = λ p s carried accesses. (
  all-of_none c.dominates_means_dominance.ensures p s carried accesses,
  none-of_all c.dominates_means_dominance.ensures p s carried accesses,
)

pub returns-clause-some : goal.returns-clause-some
returns-clause-some c = first-of_some c.dominates_means_dominance.ensures
