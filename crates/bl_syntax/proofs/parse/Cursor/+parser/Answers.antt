use Rattle.std.proofs.Common.{◌∷◌, [], ◌∙◌, arith}
use Rattle.bl_name.specs.declared.token.Keyword.TheVariants.{When, Do}
use Rattle.bl_work.specs.Few.{items_of}
use Rattle.bl_syntax.specs.RawBodies.{raw_access}
use Rattle.bl_work.specs.Machine.{word, more_accesses, a_body}
use Rattle.bl_syntax.proofs.Faults.{exits, behind_access, behind_more, behind_word, behind_test, behind_body, behind_else, no_else, in_statement, behind_statement, first_due}
use Rattle.bl_syntax.proofs.Spellings.{when_falls, when_spelled, body_pushed}
use Rattle.bl_syntax.proofs.parse.Cursor.+parser.Goals as goal

pub when-returns-in_err-more-clause-gives : goal.when-returns-in_err-more-clause-gives
when-returns-in_err-more-clause-gives t c =
    exits _ _ _ _ _ c.from_residual-in_err-more.ensures.1
    (behind_access _ (raw_access c.in_ok-first.first) _ _ _ c.in_ok-first.ensures.gives (first_due (more_accesses ∷ []) _ _ _ c.in_err-more.ensures.gives))

pub when-returns-in_err-key-clause-gives : goal.when-returns-in_err-key-clause-gives
when-returns-in_err-key-clause-gives t c =
    exits _ _ _ _ _ c.from_residual-in_err-key.ensures.1
    (behind_access _ (raw_access c.in_ok-first.first) _ _ _ c.in_ok-first.ensures.gives
    (behind_more _ _ _ _ _ c.in_ok-more.ensures.gives.0 c.in_ok-more.ensures.gives.1 (first_due (word Do ∷ []) _ _ _ c.in_err-key.ensures.gives)))

pub when-body-requires : goal.when-body-requires
when-body-requires t c =
    let falls = when_falls (raw_access c.in_ok-first.first) _ _ _ _ _ _ c.in_ok-first.ensures.gives c.in_ok-more.ensures.gives.0 c.in_ok-key.ensures.gives in
    (omega (arith, falls, c.decreases), tt)

pub when-returns-in_err-body-clause-gives : goal.when-returns-in_err-body-clause-gives
when-returns-in_err-body-clause-gives t c =
    exits _ _ _ _ _ c.from_residual-in_err-body.ensures.1
    (behind_access _ (raw_access c.in_ok-first.first) _ _ _ c.in_ok-first.ensures.gives
    (behind_more _ _ _ _ _ c.in_ok-more.ensures.gives.0 c.in_ok-more.ensures.gives.1
    (behind_word Do _ _ _ _ c.in_ok-key.ensures.gives (first_due (a_body ∷ []) _ _ _ c.in_err-body.ensures.gives))))

pub when-returns-in_err-key-2-clause-gives : goal.when-returns-in_err-key-2-clause-gives
when-returns-in_err-key-2-clause-gives t c =
    exits _ _ _ _ _ c.from_residual-in_err-key-2.ensures.1
    (behind_access _ (raw_access c.in_ok-first.first) _ _ _ c.in_ok-first.ensures.gives
    (behind_more _ _ _ _ _ c.in_ok-more.ensures.gives.0 c.in_ok-more.ensures.gives.1
    (behind_word Do _ _ _ _ c.in_ok-key.ensures.gives (behind_body _ _ _ _ _ c.in_ok-body.ensures.gives.0 c.in_ok-body.ensures.gives.1 c.in_err-key-2.ensures.gives))))

pub when-returns-clause-gives : goal.when-returns-clause-gives
when-returns-clause-gives t c =
    when_spelled (raw_access c.in_ok-first.first) _ _ _ _ _ _ _ _ c.in_ok-first.ensures.gives c.in_ok-more.ensures.gives.0 c.in_ok-key.ensures.gives c.in_ok-body.ensures.gives.0 c.in_ok-key-2.ensures.gives

pub choice-returns-in_err-then_body-clause-gives : goal.choice-returns-in_err-then_body-clause-gives
choice-returns-in_err-then_body-clause-gives t c =
    exits _ _ _ _ _ c.from_residual-in_err-then_body.ensures.1
    (behind_test _ _ _ _ _ _ _ c.in_ok-document.ensures.gives (first_due (a_body ∷ []) _ _ _ c.in_err-then_body.ensures.gives))

pub choice-returns-in_err-else_body-clause-gives : goal.choice-returns-in_err-else_body-clause-gives
choice-returns-in_err-else_body-clause-gives t c =
    exits _ _ _ _ _ c.from_residual-in_err-else_body.ensures.1
    (behind_test _ _ _ _ _ _ _ c.in_ok-document.ensures.gives (behind_body _ _ _ _ _ c.in_ok-then_body.ensures.gives.0 c.in_ok-then_body.ensures.gives.1
    (behind_else _ _ _ _ c.if-takes.ensures.gives (first_due (a_body ∷ []) _ _ _ c.in_err-else_body.ensures.gives))))

pub choice-returns-in_err-key-clause-gives : goal.choice-returns-in_err-key-clause-gives
choice-returns-in_err-key-clause-gives t c =
    exits _ _ _ _ _ c.from_residual-in_err-key.ensures.1
    (behind_test _ _ _ _ _ _ _ c.in_ok-document.ensures.gives (behind_body _ _ _ _ _ c.in_ok-then_body.ensures.gives.0 c.in_ok-then_body.ensures.gives.1
    (behind_else _ _ _ _ c.if-takes.ensures.gives (behind_body _ _ _ _ _ c.in_ok-else_body.ensures.gives.0 c.in_ok-else_body.ensures.gives.1 c.in_err-key.ensures.gives))))

pub choice-returns-in_err-key-2-clause-gives : goal.choice-returns-in_err-key-2-clause-gives
choice-returns-in_err-key-2-clause-gives t c =
    exits _ _ _ _ _ c.from_residual-in_err-key-2.ensures.1
    (behind_test _ _ _ _ _ _ _ c.in_ok-document.ensures.gives (behind_body _ _ _ _ _ c.in_ok-then_body.ensures.gives.0 c.in_ok-then_body.ensures.gives.1
    (no_else _ _ _ c.if-takes.ensures.gives.1 (rw c.if-takes.ensures.gives.0 at c.in_err-key-2.ensures.gives))))

pub statement-returns-in_err-when-in-Spawn-clause-gives : goal.statement-returns-in_err-when-in-Spawn-clause-gives
statement-returns-in_err-when-in-Spawn-clause-gives t c =
    exits _ _ _ _ _ c.from_residual-in_err-when-in-Spawn.ensures.1
    (rw c.in-Spawn.is (behind_word When _ _ _ _ c.in_ok-key-in-Spawn.ensures.gives c.in_err-when-in-Spawn.ensures.gives))

pub body-returns-in_err-statement-clause-gives : goal.body-returns-in_err-statement-clause-gives
body-returns-in_err-statement-clause-gives t c =
    exits _ _ _ _ _ c.from_residual.ensures.1 (in_statement c.in-Some.start _ _ _ _ _ c.loop-start.invariant.taken c.in-Some.ensures.gives c.in_err-statement.ensures.gives)

pub body-returns-in_err-sign-clause-gives : goal.body-returns-in_err-sign-clause-gives
body-returns-in_err-sign-clause-gives t c =
    exits _ _ _ _ _ c.from_residual-in_err-sign.ensures.1
    (behind_statement c.in_ok-statement.statement _ _ _ _ _ c.loop-start.invariant.taken (c.in-Some.ensures.gives ∙ c.in_ok-statement.ensures.gives) c.in_err-sign.ensures.gives)

pub body-loop-start-preserved : goal.body-loop-start-preserved
body-loop-start-preserved t c = record {
  taken = rw c.in_ok-push.ensures.ok
      (body_pushed (items_of c.loop-start.statements) c.in_ok-statement.statement _ _ _ _ c.loop-start.invariant.taken (c.in-Some.ensures.gives ∙ c.in_ok-statement.ensures.gives) c.in_ok-sign.ensures.gives);
  ending = c.in_ok-sign.ensures.ending ∙ c.in_ok-statement.ensures.ending ∙ c.in-Some.ensures.ending ∙ c.loop-start.invariant.ending;
}
