use Rattle.std.proofs.Common.{[], sym, subst}
use Rattle.std.specs.Prelude.{All, IfNone}
use Rattle.std.proofs.lemmas.Bool.{false≢true}
use Rattle.std.proofs.lemmas.List.Elements.{All-head, All-tail}
use Rattle.bl_level.specs.Table.{AreDistinct}
use Rattle.bl_read.specs.declared.rules.Role.TheVariants.{Document}
use Rattle.bl_syntax.specs.RawRules.{raw_level, raw_rule}
use Rattle.bl_read.specs.RuleFaults.{mentions_in_level, mentions_in, categories_in, IsKnown, IsRuleFaultless}
use Rattle.bl_read.proofs.rules.rule_of.Goals as goal

pub returns-in_err-subject-in-Give-clause-fault : goal.returns-in_err-subject-in-Give-clause-fault
returns-in_err-subject-in-Give-clause-fault c =
    subst (λ x. IfNone x (IsRuleFaultless c.args.names.now (raw_rule c.args.rule.now) → ⊥)) (sym c.from_residual.ensures)
    (λ faultless. c.in_err-subject-in-Give.ensures.unknown (subst (λ r. All (IsKnown c.args.names.now) (mentions_in (raw_rule r))) c.in-Give.is faultless.known))

pub returns-in_err-subject-in-Rescind-clause-fault : goal.returns-in_err-subject-in-Rescind-clause-fault
returns-in_err-subject-in-Rescind-clause-fault c =
    subst (λ x. IfNone x (IsRuleFaultless c.args.names.now (raw_rule c.args.rule.now) → ⊥)) (sym c.from_residual-in_err-subject-in-Rescind.ensures)
    (λ faultless. c.in_err-subject-in-Rescind.ensures.unknown (subst (λ r. All (IsKnown c.args.names.now) (mentions_in (raw_rule r))) c.in-Rescind.is faultless.known))

pub returns-in_err-level-in-Current-clause-fault : goal.returns-in_err-level-in-Current-clause-fault
returns-in_err-level-in-Current-clause-fault c =
    subst (λ x. IfNone x (IsRuleFaultless c.args.names.now (raw_rule c.args.rule.now) → ⊥)) (sym c.from_residual-in_err-level-in-Current.ensures)
    (λ faultless. c.in_err-level-in-Current.ensures.fault (subst (λ r. All (IsKnown c.args.names.now) (mentions_in (raw_rule r))) c.in-Current.is faultless.known)
    (subst (λ r. AreDistinct (categories_in (raw_rule r))) c.in-Current.is faultless.once))

pub returns-in_err-doc-in-Classify-clause-fault : goal.returns-in_err-doc-in-Classify-clause-fault
returns-in_err-doc-in-Classify-clause-fault c =
    subst (λ x. IfNone x (IsRuleFaultless c.args.names.now (raw_rule c.args.rule.now) → ⊥)) (sym c.from_residual-in_err-doc-in-Classify.ensures)
    (λ faultless. false≢true (c.in_err-doc-in-Classify.ensures.found.1
    (All-head (IsKnown c.args.names.now) (record { role = Document; word = c.in-Classify.document.now }) (mentions_in_level (raw_level c.in-Classify.level))
    (subst (λ r. All (IsKnown c.args.names.now) (mentions_in (raw_rule r))) c.in-Classify.is faultless.known))))

pub returns-in_err-level-in-Classify-clause-fault : goal.returns-in_err-level-in-Classify-clause-fault
returns-in_err-level-in-Classify-clause-fault c =
    subst (λ x. IfNone x (IsRuleFaultless c.args.names.now (raw_rule c.args.rule.now) → ⊥)) (sym c.from_residual-in_err-level-in-Classify.ensures)
    (λ faultless. c.in_err-level-in-Classify.ensures.fault
    (All-tail (IsKnown c.args.names.now) (record { role = Document; word = c.in-Classify.document.now }) (mentions_in_level (raw_level c.in-Classify.level))
    (subst (λ r. All (IsKnown c.args.names.now) (mentions_in (raw_rule r))) c.in-Classify.is faultless.known))
    (subst (λ r. AreDistinct (categories_in (raw_rule r))) c.in-Classify.is faultless.once))

pub returns-in_err-doc-in-Create-clause-fault : goal.returns-in_err-doc-in-Create-clause-fault
returns-in_err-doc-in-Create-clause-fault c =
    subst (λ x. IfNone x (IsRuleFaultless c.args.names.now (raw_rule c.args.rule.now) → ⊥)) (sym c.from_residual-in_err-doc-in-Create.ensures)
    (λ faultless. false≢true (c.in_err-doc-in-Create.ensures.found.1
    (All-head (IsKnown c.args.names.now) (record { role = Document; word = c.in-Create.document.now }) []
    (subst (λ r. All (IsKnown c.args.names.now) (mentions_in (raw_rule r))) c.in-Create.is faultless.known))))

pub returns-in_err-doc-in-Delete-clause-fault : goal.returns-in_err-doc-in-Delete-clause-fault
returns-in_err-doc-in-Delete-clause-fault c =
    subst (λ x. IfNone x (IsRuleFaultless c.args.names.now (raw_rule c.args.rule.now) → ⊥)) (sym c.from_residual-in_err-doc-in-Delete.ensures)
    (λ faultless. false≢true (c.in_err-doc-in-Delete.ensures.found.1
    (All-head (IsKnown c.args.names.now) (record { role = Document; word = c.in-Delete.document.now }) []
    (subst (λ r. All (IsKnown c.args.names.now) (mentions_in (raw_rule r))) c.in-Delete.is faultless.known))))
