use Rattle.std.proofs.Common.{◌∙◌, subst, sym, true≢false}
use Rattle.bl_policy.specs.declared.rule.Rule.TheVariants.{Current}
use Rattle.bl_work.specs.LineGrammar.{LineOf}
use Rattle.bl_work.specs.declared.asked.Line.TheVariants as line
use Rattle.bl_work.specs.declared.work.Work.TheVariants as work
use Rattle.bl_question.proofs.asked.level_by.Goals as goal

-- the line asks for the level
pub returns-in-Some-clause-level : goal.returns-in-Some-clause-level
returns-in-Some-clause-level c = subst (LineOf c.args.names.now c.args.line.now) c.in-Some.ensures.some c.in-Ok.ensures.found

-- the line is none, and memory was not refused
pub returns-clause-fault : goal.returns-clause-fault
returns-clause-fault c = λ level reads.
    true≢false (sym (c.is_of_memory.ensures.1 (c.in-Err.ensures.only (line.Work (work.Rule (Current level))) reads)) ∙ c.if-is_of_memory.false)
