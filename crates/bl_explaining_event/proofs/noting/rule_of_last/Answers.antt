use Rattle.std.proofs.Common.{◌≡◌, ◌∙◌, ap, subst, sym}
use Rattle.bl_order.specs.Machine.{MayStart, Needs, Starts, change}
use Rattle.bl_ruled.specs.Noting.{rules_at}
use Rattle.bl_explaining_event.specs.Courses.{IsStarted}
use Rattle.bl_explaining_event.proofs.Noted.{happened-is, no-rules-at, start-of}
use Rattle.bl_explaining_event.proofs.noting.rule_of_last.Goals as goal

pub returns-in-Some-clause-rule : goal.returns-in-Some-clause-rule
returns-in-Some-clause-rule c x event happened =
    let n = c.in-Some.n in
    let is : event ≡ Starts n = start-of event n (subst (IsStarted event) c.in-Some.is (c.started.ensures x event happened)) in
    let may : MayStart x n = subst (Needs x) is happened.needs in
    c.rule_of.ensures.rule x happened.reached may
    (c.core.ensures.value ∙ happened-is c.args.hall.now x event happened ∙ ap (change x) is)
    ∙ ap (rules_at c.args.number x) (sym is)

pub returns-in-None-clause-rule : goal.returns-in-None-clause-rule
returns-in-None-clause-rule c x event happened =
    sym (no-rules-at event c.args.number x (subst (IsStarted event) c.in-None.is (c.started.ensures x event happened)))
