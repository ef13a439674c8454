use Rattle.std.proofs.Common.{◌∷◌, []}
use Rattle.bl_work.specs.Machine.{a_name}
use Rattle.bl_syntax.proofs.Faults.{exits, behind_hello, behind_when, behind_give, behind_rescind, behind_current, behind_classify, behind_create, behind_delete, behind_name, first_due}
use Rattle.bl_syntax.proofs.parse.Cursor.line.Goals as goal

pub returns-in_err-name-in-Hello-clause-gives : goal.returns-in_err-name-in-Hello-clause-gives
returns-in_err-name-in-Hello-clause-gives c =
    exits _ _ _ _ _ c.from_residual-in_err-name-in-Hello.ensures.1 (behind_hello _ _ _ _ (rw c.in-Hello.is at c.in_ok-first.ensures.gives) c.in_err-name-in-Hello.ensures.gives)

pub returns-in_err-when-in-When-clause-gives : goal.returns-in_err-when-in-When-clause-gives
returns-in_err-when-in-When-clause-gives c =
    exits _ _ _ _ _ c.from_residual-in_err-when-in-When.ensures.1 (behind_when _ _ _ _ (rw c.in-When.is at c.in_ok-first.ensures.gives) c.in_err-when-in-When.ensures.gives)

pub returns-in_err-right-in-Give-clause-gives : goal.returns-in_err-right-in-Give-clause-gives
returns-in_err-right-in-Give-clause-gives c =
    exits _ _ _ _ _ c.from_residual-in_err-right-in-Give.ensures.1 (behind_give _ _ _ _ (rw c.in-Give.is at c.in_ok-first.ensures.gives) c.in_err-right-in-Give.ensures.gives)

pub returns-in_err-right-in-Rescind-clause-gives : goal.returns-in_err-right-in-Rescind-clause-gives
returns-in_err-right-in-Rescind-clause-gives c =
    exits _ _ _ _ _ c.from_residual-in_err-right-in-Rescind.ensures.1 (behind_rescind _ _ _ _ (rw c.in-Rescind.is at c.in_ok-first.ensures.gives) c.in_err-right-in-Rescind.ensures.gives)

pub returns-in_err-level-in-Current-clause-gives : goal.returns-in_err-level-in-Current-clause-gives
returns-in_err-level-in-Current-clause-gives c =
    exits _ _ _ _ _ c.from_residual-in_err-level-in-Current.ensures.1 (behind_current _ _ _ _ (rw c.in-Current.is at c.in_ok-first.ensures.gives) c.in_err-level-in-Current.ensures.gives)

pub returns-in_err-document-in-Classify-clause-gives : goal.returns-in_err-document-in-Classify-clause-gives
returns-in_err-document-in-Classify-clause-gives c =
    exits _ _ _ _ _ c.from_residual-in_err-document-in-Classify.ensures.1
    (behind_classify _ _ _ _ (rw c.in-Classify.is at c.in_ok-first.ensures.gives) (first_due (a_name ∷ []) _ _ _ c.in_err-document-in-Classify.ensures.gives))

pub returns-in_err-level-in-Classify-clause-gives : goal.returns-in_err-level-in-Classify-clause-gives
returns-in_err-level-in-Classify-clause-gives c =
    exits _ _ _ _ _ c.from_residual-in_err-level-in-Classify.ensures.1
    (behind_classify _ _ _ _ (rw c.in-Classify.is at c.in_ok-first.ensures.gives) (behind_name _ _ _ _ _ c.in_ok-document-in-Classify.ensures.gives c.in_err-level-in-Classify.ensures.gives))

pub returns-in_err-name-in-Create-clause-gives : goal.returns-in_err-name-in-Create-clause-gives
returns-in_err-name-in-Create-clause-gives c =
    exits _ _ _ _ _ c.from_residual-in_err-name-in-Create.ensures.1 (behind_create _ _ _ _ (rw c.in-Create.is at c.in_ok-first.ensures.gives) c.in_err-name-in-Create.ensures.gives)

pub returns-in_err-name-in-Delete-clause-gives : goal.returns-in_err-name-in-Delete-clause-gives
returns-in_err-name-in-Delete-clause-gives c =
    exits _ _ _ _ _ c.from_residual-in_err-name-in-Delete.ensures.1 (behind_delete _ _ _ _ (rw c.in-Delete.is at c.in_ok-first.ensures.gives) c.in_err-name-in-Delete.ensures.gives)
