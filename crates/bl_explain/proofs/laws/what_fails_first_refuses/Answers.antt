use Rattle.bl_explain.proofs.Decided.{rule_decided, permitted, rule_fails}
use Rattle.bl_explain.proofs.laws.what_fails_first_refuses.Goals as goal

pub returns-clause-denial : goal.returns-clause-denial
returns-clause-denial c = rule_decided

pub returns-clause-permitted : goal.returns-clause-permitted
returns-clause-permitted c = permitted c.rule_fault_is_the_first.ensures.none

pub returns-clause-fails : goal.returns-clause-fails
returns-clause-fails c = rule_fails c.rule_fault_is_the_first.ensures.some
