use Rattle.std.proofs.Common.{◌∷◌, []}
use Rattle.bl_work.specs.Machine.{is_or_has, a_text}
use Rattle.bl_syntax.proofs.Faults.{exits, behind_name, behind_asks, behind_text, first_due}
use Rattle.bl_syntax.proofs.parse.Cursor.test.Goals as goal

pub returns-in_err-test-clause-gives : goal.returns-in_err-test-clause-gives
returns-in_err-test-clause-gives c =
    exits _ _ _ _ _ c.from_residual-in_err-test.ensures.1 (behind_name _ _ _ _ _ c.in_ok-document.ensures.gives (first_due (is_or_has ∷ []) _ _ _ c.in_err-test.ensures.gives))

pub returns-in_err-text-clause-gives : goal.returns-in_err-text-clause-gives
returns-in_err-text-clause-gives c =
    exits _ _ _ _ _ c.from_residual-in_err-text.ensures.1
    (behind_name _ _ _ _ _ c.in_ok-document.ensures.gives (behind_asks _ _ _ _ _ c.in_ok-test.ensures.gives (first_due (a_text ∷ []) _ _ _ c.in_err-text.ensures.gives)))

pub returns-in_err-key-clause-gives : goal.returns-in_err-key-clause-gives
returns-in_err-key-clause-gives c =
    exits _ _ _ _ _ c.from_residual-in_err-key.ensures.1
    (behind_name _ _ _ _ _ c.in_ok-document.ensures.gives (behind_asks _ _ _ _ _ c.in_ok-test.ensures.gives (behind_text _ _ _ _ _ c.in_ok-text.ensures.gives c.in_err-key.ensures.gives)))
