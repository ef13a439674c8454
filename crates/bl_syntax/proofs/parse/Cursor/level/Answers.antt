use Rattle.bl_syntax.proofs.Faults.{exits, behind_name}
use Rattle.bl_syntax.proofs.parse.Cursor.level.Goals as goal

pub returns-in_err-categories-clause-gives : goal.returns-in_err-categories-clause-gives
returns-in_err-categories-clause-gives c =
    exits _ _ _ _ _ c.from_residual-in_err-categories.ensures.1 (behind_name _ _ _ _ _ c.in_ok-rank.ensures.gives c.in_err-categories.ensures.gives)
