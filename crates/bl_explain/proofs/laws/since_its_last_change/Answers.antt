use Rattle.bl_explain.proofs.Changing.{present-made, level-made, current-made, allowed-made}
use Rattle.bl_explain.proofs.laws.since_its_last_change.Goals as goal

pub returns-clause-present : goal.returns-clause-present
returns-clause-present c = present-made

pub returns-clause-level : goal.returns-clause-level
returns-clause-level c = level-made

pub returns-clause-current : goal.returns-clause-current
returns-clause-current c = current-made

pub returns-clause-allowed : goal.returns-clause-allowed
returns-clause-allowed c = allowed-made
