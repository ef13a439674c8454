use Rattle.bl_explain.proofs.Ranging.{just, not_empty}
use Rattle.bl_explain.proofs.laws.granted_at_just_these_levels.Goals as goal

pub returns-clause-levels : goal.returns-clause-levels
returns-clause-levels c = just c.dominance_is_antisymmetric.ensures c.tests_are_the_properties.ensures.simple c.tests_are_the_properties.ensures.carry

pub returns-clause-ends : goal.returns-clause-ends
returns-clause-ends c = not_empty c.dominance_is_antisymmetric.ensures c.tests_are_the_properties.ensures.simple c.tests_are_the_properties.ensures.carry
