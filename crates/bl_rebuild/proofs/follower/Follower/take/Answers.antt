use Rattle.std.proofs.Common.{◌≡◌, sym, subst}
use Rattle.bl_hall.specs.Chronicle.{state_now}
use Rattle.bl_journal.specs.Journals.{GoesNoFurther}
use Rattle.bl_trail.specs.Follow.{IsLine, IsNoEvent}
use Rattle.bl_rebuild.specs.Following.{Course}
use Rattle.bl_rebuild.specs.Remaking.{IsWhole}
use Rattle.bl_rebuild.specs.Stepping.{IsInStep, Stands}
use Rattle.bl_rebuild.specs.declared.remade.Remade.{Remade}
use Rattle.bl_rebuild.proofs.Stepping.{torn-no-further, wrong-no-further}
use Rattle.bl_rebuild.proofs.follower.Follower.take.Goals as goal

pub invariant_of-self : goal.invariant_of-self
invariant_of-self c =
    let f = c.self.inside in
    let step : IsInStep f.stepper f.rest.now = subst (λ s. Stands s f.stepper f.rest.now) c.in-Follows.is c.self.invariant.stands in
    record {
      within = c.self.invariant.within;
      stands = (step.whole, torn-no-further (state_now f.stepper.remade.hall) f.rest.now c.in_default.ensures);
    }

pub returns-in_default-clause-wrong : goal.returns-in_default-clause-wrong
returns-in_default-clause-wrong c =
    let f = c.self.inside in
    λ _. subst (λ (d : Course). GoesNoFurther (state_now d.hall) d.rest) c.self.view_is (torn-no-further (state_now f.stepper.remade.hall) f.rest.now c.in_default.ensures)

pub invariant_of-self-then-not-branch : goal.invariant_of-self-then-not-branch
invariant_of-self-then-not-branch c =
    let f = c.self.inside in
    let line = c.in-Some.line.now in
    let behind = c.in-Some.behind.now in
    let step : IsInStep f.stepper f.rest.now = subst (λ s. Stands s f.stepper f.rest.now) c.in-Follows.is c.self.invariant.stands in
    let cut : IsLine f.rest.now line behind = c.in-Some.ensures in
    let wrong : IsNoEvent (state_now f.stepper.remade.hall) line = c.in_ok-take.ensures.wrong c.if-not-branch.true behind (subst (IsInStep f.stepper) cut.split step) in
    let same : c.take.new.self.remade ≡ f.stepper.remade = c.in_ok-take.ensures.same c.if-not-branch.true in
    record {
      within = c.self.invariant.within;
      stands = (
        subst IsWhole (sym same) step.whole,
        subst (λ (m : Remade). GoesNoFurther (state_now m.hall) f.rest.now) (sym same) (wrong-no-further (state_now f.stepper.remade.hall) f.rest.now line behind cut wrong),
      );
    }

pub returns-then-not-branch-clause-wrong : goal.returns-then-not-branch-clause-wrong
returns-then-not-branch-clause-wrong c =
    let f = c.self.inside in
    let line = c.in-Some.line.now in
    let behind = c.in-Some.behind.now in
    let step : IsInStep f.stepper f.rest.now = subst (λ s. Stands s f.stepper f.rest.now) c.in-Follows.is c.self.invariant.stands in
    let cut : IsLine f.rest.now line behind = c.in-Some.ensures in
    let wrong : IsNoEvent (state_now f.stepper.remade.hall) line = c.in_ok-take.ensures.wrong c.if-not-branch.true behind (subst (IsInStep f.stepper) cut.split step) in
    λ _. subst (λ (d : Course). GoesNoFurther (state_now d.hall) d.rest) c.self.view_is (wrong-no-further (state_now f.stepper.remade.hall) f.rest.now line behind cut wrong)
