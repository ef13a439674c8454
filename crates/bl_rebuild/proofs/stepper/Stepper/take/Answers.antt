use Rattle.std.proofs.Common.{List, ℕ, sym, ap, subst, ◌∙◌}
use Rattle.bl_order.specs.Machine.{State}
use Rattle.bl_hall.specs.Chronicle.{state_now}
use Rattle.bl_hall.proofs.Trails.{state-next}
use Rattle.bl_replay.specs.Keeps.{Replays}
use Rattle.bl_trail.specs.Follow.{IsTaken}
use Rattle.bl_rebuild.specs.Remaking.{IsMade}
use Rattle.bl_rebuild.proofs.stepper.Stepper.take.Goals as goal

pub returns-then-not-branch-clause-wrong : goal.returns-then-not-branch-clause-wrong
returns-then-not-branch-clause-wrong c is rest step = c.in_ok-take.ensures.wrong c.if-not-branch.true (state_now c.args.self.now.remade.hall) rest step.replays

pub make-requires-clause-next : goal.make-requires-clause-next
make-requires-clause-next c =
    let x : State = state_now c.args.self.now.remade.hall in
    let rest : List ℕ = c.requires.stands.0 in
    let t : IsTaken x c.args.line.now (λ y. Replays c.take.new.self y rest) = c.in_ok-take.ensures.right c.if-not-branch.false x rest c.requires.stands.1.replays in
    (t.0, (t.1, t.3))

pub returns-clause-right : goal.returns-clause-right
returns-clause-right c is rest step =
    let x : State = state_now c.args.self.now.remade.hall in
    let t : IsTaken x c.args.line.now (λ y. Replays c.take.new.self y rest) = c.in_ok-take.ensures.right c.if-not-branch.false x rest step.replays in
    let made : IsMade c.args.self.now.remade t.0 c.make.new.self = c.in_ok-make.ensures t.0 (t.1, t.3) in
    record {
      event = t.0;
      needs = t.1;
      has = t.2;
      text = t.3;
      made = made;
      step = record {
        whole = made.whole;
        replays = subst (λ y. Replays c.take.new.self y rest) (sym (ap state_now made.hall ∙ state-next c.args.self.now.remade.hall t.0)) t.4;
      };
    }
