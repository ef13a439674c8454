use Rattle.std.proofs.Common.{[], ◌∙◌}
use Rattle.bl_work.specs.Machine.{access_due}
use Rattle.bl_syntax.proofs.Faults.{exits, in_more, behind_comma, first_due}
use Rattle.bl_syntax.proofs.Spellings.{more_pushed}
use Rattle.bl_syntax.proofs.parse.Cursor.more_accesses.Goals as goal

pub returns-in_err-access-clause-gives : goal.returns-in_err-access-clause-gives
returns-in_err-access-clause-gives c =
    exits _ _ _ _ _ c.from_residual.ensures.1
    (in_more [] _ _ _ _ c.loop-self.invariant.taken (behind_comma [] _ _ _ c.loop-self-test.ensures.gives (first_due (access_due []) _ _ _ c.in_err-access.ensures.gives)))

pub loop-self-preserved : goal.loop-self-preserved
loop-self-preserved c = record {
  taken = rw c.in_ok-push.ensures.items
      (more_pushed c.loop-self.accesses.items c.in_ok-access.access _ _ _ _ c.loop-self.invariant.taken c.loop-self-test.ensures.gives c.in_ok-access.ensures.gives);
  ending = c.in_ok-access.ensures.ending ∙ c.loop-self-test.ensures.ending ∙ c.loop-self.invariant.ending;
}
