use Rattle.std.proofs.Common.{◌≡◌, ◌∙◌, List, ℕ, ap, subst, sym}
use Rattle.std.specs.Prelude.{IfOk, Some}
use Rattle.bl_work.specs.Names.{KnownNames}
use Rattle.bl_work.specs.declared.work.Work.TheVariants as work
use Rattle.bl_order.specs.Machine.{past_at}
use Rattle.bl_order.specs.Order.{Applies, Task}
use Rattle.bl_explaining.specs.Explained.{TellsRule}
use Rattle.bl_explaining_event.specs.Decisions.{TellsTask, rule_words}
use Rattle.bl_explaining_event.specs.Starts.{IsTaskFor}
use Rattle.bl_explaining_event.proofs.Tasks.{no-behaviour, no-child-there, task-is}
use Rattle.bl_explaining_event.proofs.decision.tell_entry_rule.Goals as goal

pub tell_rule-requires : goal.tell_rule-requires
tell_rule-requires c =
    let y = c.args.core.now in
    let n = c.args.n in
    let rule = c.in-Rule.rule in
    let task : (past_at y n).task ≡ Applies rule =
    task-is y (c.each_state_holds.ensures y c.requires.reached) n c.requires.there (work.Rule rule) (c.in-Some.ensures.work ∙ ap Some c.in-Rule.is) in
    let known = subst (IsTaskFor c.args.setting.now.moment.setup.now.names) task c.requires.task in
    record { setting = c.requires.setting; there = known.0; asked = known.1 }

pub unreachable-requires : goal.unreachable-requires
unreachable-requires c =
    let y = c.args.core.now in
    no-behaviour y (c.each_state_holds.ensures y c.requires.reached) c.args.n c.requires.there c.in-Behaviour.field-0
    (c.in-Some.ensures.work ∙ ap Some c.in-Behaviour.is) c.requires.rule

pub unreachable-requires-in-None : goal.unreachable-requires-in-None
unreachable-requires-in-None c =
    let y = c.args.core.now in
    no-child-there y (c.each_state_holds.ensures y c.requires.reached) c.args.n c.requires.there c.in-None.ensures.work c.requires.rule

pub returns : goal.returns
returns c =
    let y = c.args.core.now in
    let n = c.args.n in
    let t = c.args.setting.now in
    let rule = c.in-Rule.rule in
    let task : (past_at y n).task ≡ Applies rule =
    task-is y (c.each_state_holds.ensures y c.requires.reached) n c.requires.there (work.Rule rule) (c.in-Some.ensures.work ∙ ap Some c.in-Rule.is) in
    let words : c.deref.result.now ≡ rule_words t.moment.setup.now.names rule =
    c.deref.ensures.value ∙ c.in_ok-words-in-Rule.ensures ∙ ap (λ (k : KnownNames). rule_words k rule) c.names-names.ensures.value in
    subst (λ (k : Task). IfOk c.tell_rule.result (λ told. TellsTask t k told.text.items told.granted)) (sym task)
    (subst (λ (w : List ℕ). IfOk c.tell_rule.result (λ told. TellsRule t rule w told.text.items told.granted)) words c.tell_rule.ensures)
