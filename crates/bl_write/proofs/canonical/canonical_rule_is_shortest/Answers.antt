use Rattle.bl_write.proofs.RulesWritten.{rule_known, rule_shortest}
use Rattle.bl_write.proofs.canonical.canonical_rule_is_shortest.Goals as goal

pub returns-clause-known : goal.returns-clause-known
returns-clause-known c = rule_known c.canonical_is_shortest.ensures

pub returns-clause-shortest : goal.returns-clause-shortest
returns-clause-shortest c = rule_shortest c.canonical_is_shortest.ensures
