use Rattle.std.proofs.Common.{◌∙◌}
use Rattle.bl_declare.specs.Reading.{level_then}
use Rattle.bl_declare.proofs.Parts.{name_passes, name_fails, of_syntax, exits}
use Rattle.bl_declare.proofs.parser.Cursor.level.Goals as goal

pub returns-in_err-rank : goal.returns-in_err-rank
unfolding level_then
returns-in_err-rank c = exits _ _ _ _ c.from_residual.ensures.1 (of_syntax (λ f next. name_fails _ _ f) c.in_err-rank.ensures)

pub returns-in_err-categories : goal.returns-in_err-categories
unfolding level_then
returns-in_err-categories c =
    exits _ _ _ _ c.from_residual-in_err-categories.ensures.1 (of_syntax (λ f next. name_passes _ _ _ _ c.in_ok-rank.ensures ∙ f _) c.in_err-categories.ensures)

pub returns : goal.returns
unfolding level_then
returns c = λ next. name_passes _ _ _ _ c.in_ok-rank.ensures ∙ c.in_ok-categories.ensures _
