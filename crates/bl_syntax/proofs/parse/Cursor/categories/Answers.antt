use Rattle.std.proofs.Common.{◌∷◌, [], sym, ◌∙◌}
use Rattle.bl_work.specs.Machine.{a_name, rest_of_categories}
use Rattle.bl_syntax.proofs.Faults.{exits, first_due, at_close, behind_category_comma}
use Rattle.bl_syntax.proofs.Categories.{listed_pushed, listed_closed, behind_listed, behind_open}
use Rattle.bl_syntax.proofs.parse.Cursor.categories.Goals as goal

pub returns-in_err-name-clause-gives : goal.returns-in_err-name-clause-gives
returns-in_err-name-clause-gives c =
    exits _ _ _ _ _ c.from_residual.ensures.1 (behind_open [] _ _ _ c.if-not-takes_sign.ensures.gives (first_due (a_name ∷ []) (rest_of_categories ∷ []) _ _ c.in_err-name.ensures.gives))

pub returns-in_err-name-2-clause-gives : goal.returns-in_err-name-2-clause-gives
returns-in_err-name-2-clause-gives c =
    exits _ _ _ _ _ c.from_residual-in_err-name-2.ensures.1
    (behind_listed [] _ _ _ _ c.loop-categories.invariant.taken
    (behind_category_comma [] _ _ _ c.loop-categories-test.ensures.gives (first_due (a_name ∷ []) (rest_of_categories ∷ []) _ _ c.in_err-name-2.ensures.gives)))

pub loop-categories-preserved : goal.loop-categories-preserved
loop-categories-preserved c = record {
  taken = rw c.in_ok-push-2.ensures.items
      (listed_pushed c.loop-categories.categories.items c.in_ok-name-2.field-0 _ _ _ _ c.loop-categories.invariant.taken c.loop-categories-test.ensures.gives c.in_ok-name-2.ensures.gives);
  ending = c.in_ok-name-2.ensures.ending ∙ c.loop-categories-test.ensures.ending ∙ c.loop-categories.invariant.ending;
}

pub returns-in_err-sign-clause-gives : goal.returns-in_err-sign-clause-gives
returns-in_err-sign-clause-gives c =
    exits _ _ _ _ _ c.from_residual-in_err-sign.ensures.1
    (behind_listed [] _ _ _ _ c.loop-categories.invariant.taken (at_close [] _ _ c.loop-categories-test.ensures.gives.1 (rw c.loop-categories-test.ensures.gives.0 at c.in_err-sign.ensures.gives)))

pub returns-clause-gives : goal.returns-clause-gives
returns-clause-gives c = listed_closed _ _ _ _ c.loop-categories.invariant.taken (sym c.loop-categories-test.ensures.gives.0 ∙ c.in_ok-sign.ensures.gives)
