use Rattle.std.proofs.Common.{◌∙◌, subst}
use Rattle.bl_trail.specs.Follow.{IsVerdict}
use Rattle.bl_trail.specs.TrueText.{FirstWrong}
use Rattle.bl_recover.proofs.finish.events_of.Goals as goal

-- a line of it is wrong
pub returns-in-Ok-Rejected-clause-fault : goal.returns-in-Ok-Rejected-clause-fault
returns-in-Ok-Rejected-clause-fault g c =
    let verdict = subst (IsVerdict c.args.setup.now c.as_slice.result.now) c.in-Ok-Rejected.field-0-is c.in-Ok-Rejected.ensures in (
      c.in-Ok-Rejected.field-0-0,
      subst (λ text. FirstWrong c.args.setup.now text c.in-Ok-Rejected.field-0-0) (c.as_slice.ensures.value ∙ c.in-Ok.ensures.bytes) verdict,
    )
