use Rattle.bl_explain.proofs.Decided.{decided, granted, fails}
use Rattle.bl_explain.proofs.laws.what_fails_first_decides.Goals as goal

pub returns-clause-denial : goal.returns-clause-denial
returns-clause-denial c = decided

pub returns-clause-granted : goal.returns-clause-granted
returns-clause-granted c = granted c.dominates_means_dominance.ensures

pub returns-clause-fails : goal.returns-clause-fails
returns-clause-fails c = fails c.dominates_means_dominance.ensures
