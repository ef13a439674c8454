use Rattle.std.proofs.Common.{rules, ◌≡◌, ◌<◌, ◌∙◌, ◌∷◌, [], ap, length, refl, subst, sym}
use Rattle.std.specs.Prelude.{Some, option_and_then, slice_get}
use Rattle.bl_policy.specs.RuleEffect.{IsRuleOf}
use Rattle.bl_work.specs.declared.work.Work.TheVariants as work
use Rattle.bl_order.specs.Machine.{State, past_at}
use Rattle.bl_core.specs.Origins.{work_asked}
use Rattle.bl_explaining_event.proofs.Noted.{none-of-behaviour, none-of-child, one-of-rule}
use Rattle.bl_explaining_event.proofs.Speaking.{speaker-known}
use Rattle.bl_explaining_event.proofs.noting.rule_of.Goals as goal

pub returns-in-Some-Rule-clause-known : goal.returns-in-Some-Rule-clause-known
returns-in-Some-Rule-clause-known c =
    let y = c.args.core.now in
    let there = c.in-Some.ensures.some.0 refl in
    let speaker : c.in-Some.subject < length y.setup.policy.subjects =
    subst (λ s. s < length y.setup.policy.subjects) (sym c.in-Some.ensures.value)
    (speaker-known y c.requires (c.each_state_holds.ensures y c.requires) c.args.n there) in
    let same : c.applied.result.speaker ≡ c.in-Some.subject = search rules in
    let rule : IsRuleOf y.setup.policy c.applied.result.rule = search rules in
    (subst (λ s. s < length y.setup.policy.subjects) (sym same) speaker, rule)

pub returns-in-Some-Rule-clause-rule : goal.returns-in-Some-Rule-clause-rule
returns-in-Some-Rule-clause-rule c x reached may is =
    let y = c.args.core.now in
    let n = c.args.n in
    let asked : option_and_then work_asked (slice_get y.order n) ≡ Some (work.Rule c.applied.result.rule) = search rules in
    let subject : c.applied.result.speaker ≡ (past_at y n).subject = search rules in
    let same : c.applied.result.speaker ≡ (past_at x n).subject =
    subject ∙ ap (λ (z : State). (past_at z n).subject) is ∙ ap (λ p. p.subject) ((c.headline.ensures.state x reached).start_leaves n n may) in
    let event : c.applied.result.event ≡ c.args.event = search rules in
    (λ i. record { event = event i; speaker = same i; rule = c.applied.result.rule } ∷ [])
    ∙ sym (one-of-rule x (c.each_state_holds.ensures x reached) n c.args.event may c.applied.result.rule
    (ap (λ (z : State). option_and_then work_asked (slice_get z.order n)) (sym is) ∙ asked))

pub returns-in-Some-Behaviour-clause-rule : goal.returns-in-Some-Behaviour-clause-rule
returns-in-Some-Behaviour-clause-rule c x reached may is =
    let y = c.args.core.now in
    let n = c.args.n in
    let asked : option_and_then work_asked (slice_get y.order n) ≡ Some (work.Behaviour c.in-Some-Behaviour.field-0-0) = search rules in
    sym (none-of-behaviour x (c.each_state_holds.ensures x reached) n c.args.event may c.in-Some-Behaviour.field-0-0
    (ap (λ (z : State). option_and_then work_asked (slice_get z.order n)) (sym is) ∙ asked))

pub returns-in-None-clause-rule : goal.returns-in-None-clause-rule
returns-in-None-clause-rule c x reached may is =
    let n = c.args.n in
    sym (none-of-child x (c.each_state_holds.ensures x reached) n c.args.event may
    (ap (λ (z : State). option_and_then work_asked (slice_get z.order n)) (sym is) ∙ c.in-None.ensures.work))
