use Rattle.std.proofs.Common.{◌∙◌}
use Rattle.bl_declare.proofs.Parts.{name_passes, name_fails, ended_at, ended_not, of_syntax, exits}
use Rattle.bl_declare.proofs.parser.Cursor.reserve.Goals as goal

pub returns-in_err-name : goal.returns-in_err-name
returns-in_err-name c =
    exits _ _ _ _ c.from_residual.ensures.1
    (of_syntax (λ f. name_fails _ _ f) c.in_err-name.ensures)

pub returns-in_err-level : goal.returns-in_err-level
returns-in_err-level c =
    exits _ _ _ _ c.from_residual-in_err-level.ensures.1
    (of_syntax (λ f. name_passes _ _ _ _ c.in_ok-name.ensures ∙ f _) c.in_err-level.ensures)

pub returns-in_err-end : goal.returns-in_err-end
returns-in_err-end c =
    exits _ _ _ _ c.from_residual-in_err-end.ensures.1
    (of_syntax (λ f. name_passes _ _ _ _ c.in_ok-name.ensures ∙ c.in_ok-level.ensures _ ∙ ended_not _ _ f) c.in_err-end.ensures)

pub returns : goal.returns
returns c = name_passes _ _ _ _ c.in_ok-name.ensures ∙ c.in_ok-level.ensures _ ∙ ended_at _ _ c.in_ok-end.ensures
