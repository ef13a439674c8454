use Rattle.bl_syntax.proofs.Faults.{exits, behind_name}
use Rattle.bl_syntax.proofs.parse.Cursor.name_and_text.Goals as goal

pub returns-in_err-text-clause-gives : goal.returns-in_err-text-clause-gives
returns-in_err-text-clause-gives c = exits _ _ _ _ _ c.from_residual-in_err-text.ensures.1 (behind_name _ _ _ _ _ c.in_ok-document.ensures.gives c.in_err-text.ensures.gives)
