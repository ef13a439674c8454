use Rattle.std.proofs.Common.{rules, sym, ◌∙◌, ap}
use Rattle.std.proofs.lemmas.Result.{on_ok_weaker}
use Rattle.bl_policy.specs.FirstFault.{first_fault}
use Rattle.bl_order.specs.Order.{Runs}
use Rattle.bl_monitor.specs.Judging.{case_of}
use Rattle.bl_monitor.proofs.Changes.{leaves_lost, leaves_denied, leaves_done}
use Rattle.bl_monitor.proofs.judge.behaviour.Goals as goal

pub returns-then-admitted-clause-left : goal.returns-then-admitted-clause-left
returns-then-admitted-clause-left c =
    leaves_lost c.args.policy.now c.args.contents.now (case_of c.args.admitted.now (Runs c.args.script.now c.args.admitted.now.index)) c.if-admitted.true

pub returns-in-Some-clause-left : goal.returns-in-Some-clause-left
returns-in-Some-clause-left c =
    leaves_denied c.args.policy.now c.args.contents.now c.args.admitted.now (Runs c.args.script.now c.args.admitted.now.index) c.in-Some.denial c.if-admitted.false
    (sym c.in-Some.is ∙ c.decide-fault.ensures.first ∙ ap (first_fault c.args.policy.now c.args.admitted.now.subject c.args.admitted.now.carried) c.accesses.ensures)

pub returns-in-None-clause-left : goal.returns-in-None-clause-left
returns-in-None-clause-left c =
    on_ok_weaker c.done.result
    (leaves_done c.args.policy.now c.args.contents.now c.args.admitted.now c.args.script.now c.args.admitted.now.index c.done.new.contents c.if-admitted.false
    (sym c.in-None.is ∙ c.decide-fault.ensures.first ∙ ap (first_fault c.args.policy.now c.args.admitted.now.subject c.args.admitted.now.carried) c.accesses.ensures))
    c.done.ensures.left

pub returns-then-admitted-clause-judged : goal.returns-then-admitted-clause-judged
returns-then-admitted-clause-judged c = search rules

pub returns-in-None-clause-judged : goal.returns-in-None-clause-judged
returns-in-None-clause-judged c = search rules
