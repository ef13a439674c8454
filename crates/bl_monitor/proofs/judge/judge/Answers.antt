use Rattle.std.proofs.Common.{sym, subst}
use Rattle.bl_order.specs.Past.{first_task, child_task}
use Rattle.bl_monitor.specs.Judging.{IsJudged, Leaves, case_of, content_behind, record_of}
use Rattle.bl_monitor.proofs.judge.judge.Goals as goal

pub returns-in-Rule-clause-judged : goal.returns-in-Rule-clause-judged
returns-in-Rule-clause-judged c =
    subst (λ w. IsJudged c.args.policy.now c.args.contents.now (case_of c.args.admitted.now (child_task (first_task w) c.args.admitted.now.index)) c.apply.result)
    (sym c.in-Rule.is) c.apply.ensures.judged

pub returns-in-Rule-clause-left : goal.returns-in-Rule-clause-left
returns-in-Rule-clause-left c =
    let contents = c.args.contents.now in
    subst (λ w. Leaves contents (content_behind contents (record_of c.args.policy.now contents (case_of c.args.admitted.now (child_task (first_task w) c.args.admitted.now.index)))) c.apply.new.contents)
    (sym c.in-Rule.is) c.apply.ensures.left
