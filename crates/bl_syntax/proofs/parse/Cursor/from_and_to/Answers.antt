use Rattle.std.proofs.Common.{◌∷◌, []}
use Rattle.bl_name.specs.declared.token.Keyword.TheVariants.{To}
use Rattle.bl_work.specs.Machine.{word}
use Rattle.bl_syntax.proofs.Faults.{exits, behind_name, behind_word, first_due}
use Rattle.bl_syntax.proofs.parse.Cursor.from_and_to.Goals as goal

pub returns-in_err-key-clause-gives : goal.returns-in_err-key-clause-gives
returns-in_err-key-clause-gives c =
    exits _ _ _ _ _ c.from_residual-in_err-key.ensures.1 (behind_name _ _ _ _ _ c.in_ok-from.ensures.gives (first_due (word To ∷ []) _ _ _ c.in_err-key.ensures.gives))

pub returns-in_err-to-clause-gives : goal.returns-in_err-to-clause-gives
returns-in_err-to-clause-gives c =
    exits _ _ _ _ _ c.from_residual-in_err-to.ensures.1 (behind_name _ _ _ _ _ c.in_ok-from.ensures.gives (behind_word To _ _ _ _ c.in_ok-key.ensures.gives c.in_err-to.ensures.gives))
