use Rattle.std.proofs.Common.{◌∙◌}
use Rattle.bl_declare.proofs.Parts.{name_passes, name_fails, mode_passes, mode_fails, ended_at, ended_not, of_syntax, exits}
use Rattle.bl_declare.proofs.parser.Cursor.allow.Goals as goal

pub returns-in_err-subject : goal.returns-in_err-subject
returns-in_err-subject c =
    exits _ _ _ _ c.from_residual.ensures.1
    (of_syntax (λ f. name_fails _ _ f) c.in_err-subject.ensures)

pub returns-in_err-document : goal.returns-in_err-document
returns-in_err-document c =
    exits _ _ _ _ c.from_residual-in_err-document.ensures.1
    (of_syntax (λ f. name_passes _ _ _ _ c.in_ok-subject.ensures ∙ name_fails _ _ f) c.in_err-document.ensures)

pub returns-in_err-mode : goal.returns-in_err-mode
returns-in_err-mode c =
    exits _ _ _ _ c.from_residual-in_err-mode.ensures.1
    (of_syntax (λ f. name_passes _ _ _ _ c.in_ok-subject.ensures ∙ name_passes _ _ _ _ c.in_ok-document.ensures ∙ mode_fails _ _ f) c.in_err-mode.ensures)

pub returns-in_err-end : goal.returns-in_err-end
returns-in_err-end c =
    exits _ _ _ _ c.from_residual-in_err-end.ensures.1
    (of_syntax (λ f. name_passes _ _ _ _ c.in_ok-subject.ensures ∙ name_passes _ _ _ _ c.in_ok-document.ensures ∙ mode_passes _ _ _ _ c.in_ok-mode.ensures ∙ c.in_ok-modes.ensures _ ∙ ended_not _ _ f) c.in_err-end.ensures)

pub returns : goal.returns
returns c = name_passes _ _ _ _ c.in_ok-subject.ensures ∙ name_passes _ _ _ _ c.in_ok-document.ensures ∙ mode_passes _ _ _ _ c.in_ok-mode.ensures ∙ c.in_ok-modes.ensures _ ∙ ended_at _ _ c.in_ok-end.ensures
