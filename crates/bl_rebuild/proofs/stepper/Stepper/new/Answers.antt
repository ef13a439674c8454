use Rattle.std.proofs.Common.{sym, ◌∙◌, ap, subst}
use Rattle.bl_order.specs.Machine.{State, start}
use Rattle.bl_hall.specs.Chronicle.{state_now}
use Rattle.bl_replay.specs.Keeps.{Replays}
use Rattle.bl_replay.specs.Marks.{lost_later}
use Rattle.bl_rebuild.proofs.Recovering.{by-two}
use Rattle.bl_rebuild.proofs.stepper.Stepper.new.Goals as goal

pub returns-in-Ok-clause-step : goal.returns-in-Ok-clause-step
returns-in-Ok-clause-step c = record {
  whole = c.in-Ok.ensures.whole;
  replays = subst (λ (x : State). Replays c.in_ok-replayer.replayer x c.args.text.now)
      (ap (λ s. start s c.args.limit) (by-two c.args.setup.now c.version-version.ensures.two) ∙ sym (ap state_now c.in-Ok.ensures.hall))
      (record {
        keeps = c.in_ok-replayer.ensures.keeps;
        found = c.in_ok-marks.ensures.0;
        are = c.in_ok-marks.ensures.1;
        foretell = λ k. ap (λ m. lost_later m.items k) c.in_ok-replayer.ensures.marks ∙ c.in_ok-marks.ensures.2 k;
      });
}
