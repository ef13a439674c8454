use Rattle.std.proofs.Common.{subst, sym}
use Rattle.bl_work.specs.LineGrammar.{LineOf}
use Rattle.bl_work.specs.declared.asked.Line.TheVariants as line
use Rattle.bl_question.specs.Asked.{IsNoWork}
use Rattle.bl_question.specs.Wishes.{HasNoWish}
use Rattle.bl_question.proofs.Unsaying.{unsaid-is}
use Rattle.bl_question.proofs.asked.work_of.Goals as goal

pub returns-in-Ok-clause-wish : goal.returns-in-Ok-clause-wish
returns-in-Ok-clause-wish c = subst (λ b. LineOf c.args.names.now b (line.Work c.in-Ok.work)) c.requires c.in-Ok.ensures.work

pub returns-in-Err-clause-fault : goal.returns-in-Err-clause-fault
returns-in-Err-clause-fault c =
    let names = c.args.names.now in
    let text = c.args.text.now in
    subst (HasNoWish names text) (sym c.unsaid.ensures)
    (unsaid-is names text c.in-Err.fault (subst (λ b. IsNoWork names b c.in-Err.fault) c.requires c.in-Err.ensures.fault))
