use Rattle.std.proofs.Common.{◌<◌, [], length, set, rules, arith, sym, ◌∙◌, ap, subst}
use Rattle.bl_policy.specs.RuleEffect.{IsRuleOf, rule_fault}
use Rattle.bl_order.specs.Order.{Applies}
use Rattle.bl_monitor.specs.Judging.{Leaves, case_of, content_behind, record_of}
use Rattle.bl_monitor.proofs.Changes.{leaves_lost, leaves_denied, leaves_rule, leaves_deleted}
use Rattle.bl_monitor.proofs.judge.apply.Goals as goal
use Rattle.bl_monitor.proofs.judge.apply.Goals.{in-Delete, in_default-rule}

pub returns-then-admitted-clause-left : goal.returns-then-admitted-clause-left
returns-then-admitted-clause-left c =
    leaves_lost c.args.policy.now c.args.contents.now (case_of c.args.admitted.now (Applies c.args.rule.now)) c.if-admitted.true

pub returns-in-Some-clause-left : goal.returns-in-Some-clause-left
returns-in-Some-clause-left c =
    leaves_denied c.args.policy.now c.args.contents.now c.args.admitted.now (Applies c.args.rule.now) c.in-Some.denial c.if-admitted.false
    (sym c.in-Some.is ∙ c.apply.ensures.fault)

pub returns-clause-left : goal.returns-clause-left
returns-clause-left c =
    let policy = c.args.policy.now in
    let contents = c.args.contents.now in
    let admitted = c.args.admitted.now in
    elim c.match-rule.branch [
      | in-Delete w ↦
          let doc = w.in-Delete.doc in
          let there : doc < length policy.documents = subst (IsRuleOf policy) w.in-Delete.is c.requires.ids in
          let within : doc < length contents = omega (arith, c.requires.as_many) in
          subst (λ r. Leaves contents (content_behind contents (record_of policy contents (case_of admitted (Applies r)))) c.match-rule.contents) (sym w.in-Delete.is)
          (leaves_deleted policy contents c.match-rule.contents admitted doc c.if-admitted.false
          (sym c.in_default.is ∙ c.apply.ensures.fault ∙ ap (rule_fault policy admitted.subject) w.in-Delete.is)
          within (w.contents-is ∙ ap (set contents w.position.result) w.truncate.ensures ∙ ap (λ place. set contents place []) w.position.ensures))
      | in_default-rule w ↦
          subst (Leaves contents (content_behind contents (record_of policy contents (case_of admitted (Applies c.args.rule.now))))) (sym w.contents-is)
          (leaves_rule policy contents admitted c.args.rule.now w.in_default-rule.not-Delete)
    ]

pub returns-in-Some-clause-policy : goal.returns-in-Some-clause-policy
returns-in-Some-clause-policy c = search rules

pub returns-then-admitted-clause-policy : goal.returns-then-admitted-clause-policy
returns-then-admitted-clause-policy c = search rules
