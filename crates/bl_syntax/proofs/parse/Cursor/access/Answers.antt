use Rattle.bl_syntax.proofs.Faults.{exits, behind_mode}
use Rattle.bl_syntax.proofs.parse.Cursor.access.Goals as goal

pub returns-in_err-document-clause-gives : goal.returns-in_err-document-clause-gives
returns-in_err-document-clause-gives c = exits _ _ _ _ _ c.from_residual-in_err-document.ensures.1 (behind_mode _ _ _ _ _ c.in_ok-mode.ensures.gives c.in_err-document.ensures.gives)
