use Rattle.std.proofs.Common.{◌∷◌, []}
use Rattle.bl_work.specs.Machine.{a_name}
use Rattle.bl_syntax.proofs.Faults.{exits, behind_name, first_due}
use Rattle.bl_syntax.proofs.parse.Cursor.right.Goals as goal

pub returns-in_err-document-clause-gives : goal.returns-in_err-document-clause-gives
returns-in_err-document-clause-gives c =
    exits _ _ _ _ _ c.from_residual-in_err-document.ensures.1 (behind_name _ _ _ _ _ c.in_ok-subject.ensures.gives (first_due (a_name ∷ []) _ _ _ c.in_err-document.ensures.gives))

pub returns-in_err-mode-clause-gives : goal.returns-in_err-mode-clause-gives
returns-in_err-mode-clause-gives c =
    exits _ _ _ _ _ c.from_residual-in_err-mode.ensures.1
    (behind_name _ _ _ _ _ c.in_ok-subject.ensures.gives (behind_name _ _ _ _ _ c.in_ok-document.ensures.gives c.in_err-mode.ensures.gives))
