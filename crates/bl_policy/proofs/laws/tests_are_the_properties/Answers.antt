use Rattle.bl_policy.proofs.Properties.{simple-means, star-means, carry-means}
use Rattle.bl_policy.proofs.laws.tests_are_the_properties.Goals as goal

pub returns-clause-simple : goal.returns-clause-simple
returns-clause-simple c = simple-means c.dominates_means_dominance.ensures

pub returns-clause-star : goal.returns-clause-star
returns-clause-star c = star-means c.dominates_means_dominance.ensures

pub returns-clause-carry : goal.returns-clause-carry
returns-clause-carry c = carry-means c.dominates_means_dominance.ensures
