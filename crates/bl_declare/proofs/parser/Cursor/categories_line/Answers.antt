use Rattle.std.proofs.Common.{◌∙◌}
use Rattle.bl_declare.proofs.Parts.{ended_at, ended_not, of_syntax, exits}
use Rattle.bl_declare.proofs.parser.Cursor.categories_line.Goals as goal

pub returns-in_err-end : goal.returns-in_err-end
returns-in_err-end c =
    exits _ _ _ _ c.from_residual-in_err-end.ensures.1
    (of_syntax (λ f. c.in_ok-names.ensures _ ∙ ended_not _ _ f) c.in_err-end.ensures)

pub returns : goal.returns
returns c = c.in_ok-names.ensures _ ∙ ended_at _ _ c.in_ok-end.ensures
