use Rattle.std.proofs.Common.{inl, inr, subst}
use Rattle.bl_hall.specs.Chronicle.{state_now}
use Rattle.bl_journal.specs.Journals.{GoesNoFurther}
use Rattle.bl_rebuild.specs.Remaking.{IsWhole}
use Rattle.bl_rebuild.specs.Stepping.{IsInStep, Stands}
use Rattle.bl_rebuild.proofs.follower.Follower.close.Goals as goal

pub close_at-requires : goal.close_at-requires
close_at-requires c =
    let f = c.self.inside in
    elim c.in-Follows.is [
      | inl follows ↦
          let step : IsInStep f.stepper f.rest.now = subst (λ s. Stands s f.stepper f.rest.now) follows c.self.invariant.stands in
          step.whole
      | inr over ↦
          let stands : IsWhole f.stepper.remade × GoesNoFurther (state_now f.stepper.remade.hall) f.rest.now = subst (λ s. Stands s f.stepper f.rest.now) over c.self.invariant.stands in
          stands.0
    ]
