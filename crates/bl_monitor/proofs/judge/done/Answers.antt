use Rattle.std.proofs.Common.{sym, ◌∙◌, ap, subst, length, refl}
use Rattle.std.specs.Prelude.{All, slice_index_or}
use Rattle.std.proofs.lemmas.List.Elements.{All-nil}
use Rattle.bl_work.specs.Body.{statements_of}
use Rattle.bl_work.specs.Statements.{no_part}
use Rattle.bl_work.specs.declared.answer.Answer.TheVariants as answer
use Rattle.bl_monitor.specs.Running.{UsesBelow}
use Rattle.bl_monitor.specs.Undoing.{undone, IsOf}
use Rattle.bl_monitor.proofs.Changes.{uses_below, HasRun, has_run}
use Rattle.bl_monitor.proofs.Keeps.{declared}
use Rattle.bl_monitor.proofs.judge.done.Goals as goal

pub run-requires : goal.run-requires
run-requires c =
    let part = slice_index_or c.args.script.now c.args.index no_part in
    subst (UsesBelow (length c.args.contents.now)) (sym c.body.ensures.value)
    (uses_below (length c.args.contents.now) part.accesses (declared (length c.args.contents.now) c.args.script.now c.args.index c.requires.documents c.requires.index) part.body c.body.ensures.behaviour.modes)

pub returns-in-Ok-clause-done : goal.returns-in-Ok-clause-done
returns-in-Ok-clause-done c =
    let part = slice_index_or c.args.script.now c.args.index no_part in
    let ran : HasRun c.args.contents.now part c.run.new.contents c.run.new.self =
    has_run c.args.contents.now c.run.new.contents part (statements_of c.body.result.now) c.new-running.result c.run.new.self c.body.ensures.value c.body.ensures.behaviour
    c.new-running.ensures.shown c.new-running.ensures.spawned c.run.ensures.back.long c.in-Ok.ensures.ran in
    record { answer = ap answer.Done (c.new-outputs.ensures ∙ ran.shown); fault = refl; ran = refl; spawned = ran.spawned }

pub returns-in-Ok-clause-left : goal.returns-in-Ok-clause-left
returns-in-Ok-clause-left c =
    let part = slice_index_or c.args.script.now c.args.index no_part in
    let ran : HasRun c.args.contents.now part c.run.new.contents c.run.new.self =
    has_run c.args.contents.now c.run.new.contents part (statements_of c.body.result.now) c.new-running.result c.run.new.self c.body.ensures.value c.body.ensures.behaviour
    c.new-running.ensures.shown c.new-running.ensures.spawned c.run.ensures.back.long c.in-Ok.ensures.ran in
    ran.leaves

pub undo-requires : goal.undo-requires
undo-requires c =
    c.run.ensures.back.there (subst (All (IsOf (length c.args.contents.now))) (sym c.new-running.ensures.undos) (All-nil (IsOf (length c.args.contents.now))))

pub returns-in-Err-clause-err : goal.returns-in-Err-clause-err
returns-in-Err-clause-err c = c.undo.ensures ∙ c.run.ensures.back.same ∙ ap (undone c.args.contents.now) c.new-running.ensures.undos
