use Rattle.bl_level.proofs.Dominance.{dominates_by_sets}
use Rattle.bl_level.proofs.level.Level.dominates.Goals as goal

pub returns-then-other-self-clause-sets : goal.returns-then-other-self-clause-sets
returns-then-other-self-clause-sets c = rw (← c.self.view_is, ← c.other.view_is) (dominates_by_sets _ _ c.if-other-self.true)
