use Rattle.std.proofs.Common.{subst}
use Rattle.bl_wire.specs.Named.{NamesAnswer}
use Rattle.bl_audit.proofs.WithoutLf.{plain-denied, plain-lost, plain-rule_done}
use Rattle.bl_audit.proofs.plain.answer_is_plain.Goals as goal

pub returns-in-RuleDone : goal.returns-in-RuleDone
returns-in-RuleDone c = rw c.in-RuleDone.is (plain-rule_done c.args.names.now c.scheme-scheme.ensures.names)

pub returns-in-Denied : goal.returns-in-Denied
returns-in-Denied c =
    rw c.in-Denied.is (plain-denied c.args.names.now c.scheme-scheme.ensures.names c.in-Denied.field-0 (subst (NamesAnswer c.args.names.now) c.in-Denied.is c.requires))

pub returns-in-Lost : goal.returns-in-Lost
returns-in-Lost c = rw c.in-Lost.is (plain-lost c.args.names.now c.scheme-scheme.ensures.names)
