use Rattle.std.proofs.Common.{refl, ◌∙◌}
use Rattle.std.proofs.lemmas.List.{append-nil}
use Rattle.bl_declare.proofs.Parts.{modes_end, modes_step}
use Rattle.bl_declare.proofs.parser.Cursor.modes.Goals as goal

pub loop-mode-preserved : goal.loop-mode-preserved
loop-mode-preserved c = λ next. c.loop-mode.invariant next ∙ rw c.in_ok-push.ensures.items (modes_step next c.loop-mode.modes.items c.in-Some.mode _ _ c.in-Some.ensures)

pub returns : goal.returns
returns c =
    let e = c.in_default.ensures in
    λ next. rw e.0 (c.loop-mode.invariant next ∙ modes_end _ _ e.1 ∙ rw (append-nil c.loop-mode.modes.items) refl)
