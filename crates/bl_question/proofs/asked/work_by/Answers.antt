use Rattle.std.proofs.Common.{◌≡◌, inr, subst}
use Rattle.std.proofs.lemmas.Result.{IfErr-weaker, IfOk-weaker}
use Rattle.bl_work.specs.LineGrammar.{LineOf}
use Rattle.bl_work.specs.declared.asked.Line.TheVariants as line
use Rattle.bl_work.specs.declared.asked.LineFault.TheVariants.{Syntax}
use Rattle.bl_question.specs.Asked.{AsksNoWork, IsNoWork}
use Rattle.bl_question.proofs.asked.work_by.Goals as goal

pub returns-in-Ok-clause-work : goal.returns-in-Ok-clause-work
returns-in-Ok-clause-work c =
    let names = c.args.names.now in
    let bytes = c.args.line.now in
    IfOk-weaker c.work_in.result (λ work. c.in-Ok.read ≡ line.Work work) (λ work. LineOf names bytes (line.Work work))
    (λ work is. subst (LineOf names bytes) is c.in-Ok.ensures.found) c.work_in.ensures.work

pub returns-in-Ok-clause-fault : goal.returns-in-Ok-clause-fault
returns-in-Ok-clause-fault c =
    let names = c.args.names.now in
    let bytes = c.args.line.now in
    IfErr-weaker c.work_in.result (λ fault. AsksNoWork c.in-Ok.read × (fault ≡ Syntax 0)) (IsNoWork names bytes)
    (λ fault why. inr (c.in-Ok.read, c.in-Ok.ensures.found, why.0, why.1)) c.work_in.ensures.fault
