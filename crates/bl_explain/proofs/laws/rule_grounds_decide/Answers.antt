use Rattle.bl_explain.proofs.Decided.{by_grounds}
use Rattle.bl_explain.proofs.laws.rule_grounds_decide.Goals as goal

pub returns : goal.returns
returns c = by_grounds
