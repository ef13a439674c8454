use Rattle.std.proofs.Common.{rules, ◌≡◌, subst}
use Rattle.std.specs.Prelude.{IfErr, IfOk}
use Rattle.bl_question.specs.Asked.{AsksLevel, level_line}
use Rattle.bl_question.specs.Wishes.{HasNoLevel}
use Rattle.bl_question.proofs.asked.level_of.Goals as goal

pub returns-in-Ok-clause-level : goal.returns-in-Ok-clause-level
returns-in-Ok-clause-level c =
    let bytes : c.deref.result.now ≡ level_line c.args.text.now = search rules in
    subst (λ b. IfOk c.level_by.result (AsksLevel c.args.names.now b)) bytes c.level_by.ensures.level

pub returns-in-Ok-clause-fault : goal.returns-in-Ok-clause-fault
returns-in-Ok-clause-fault c =
    let bytes : c.deref.result.now ≡ level_line c.args.text.now = search rules in
    subst (λ b. IfErr c.level_by.result (HasNoLevel (AsksLevel c.args.names.now b))) bytes c.level_by.ensures.fault
