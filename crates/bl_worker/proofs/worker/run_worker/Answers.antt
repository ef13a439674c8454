use Rattle.std.proofs.Common.{subst}
use Rattle.bl_gate.proofs.Following.{follows_then}
use Rattle.bl_worker.specs.Hands.{Holds, IsLent, RunsEntry}
use Rattle.bl_worker.specs.declared.turn.Begun.{Begun}
use Rattle.bl_worker.specs.declared.hand.Hand.TheVariants.{Empty}
use Rattle.bl_worker.proofs.Adding.{adds_no_line, adds_then}
use Rattle.bl_worker.proofs.Handing.{but_then, hand_of, held_as, holds_what_ran, over_runs_none, settled_all}
use Rattle.bl_worker.proofs.worker.run_worker.Goals as goal

pub returns-in-Some-last-clause-adds : goal.returns-in-Some-last-clause-adds
returns-in-Some-last-clause-adds g c =
    adds_then _ c.args.pass.now c.loop.pass c.take_turn-ended.new.pass c.loop.invariant.4 c.take_turn-ended.ensures.adds c.take_turn-ended.ensures.follows

pub returns-in-Some-last-clause-lines : goal.returns-in-Some-last-clause-lines
returns-in-Some-last-clause-lines g c = adds_no_line _ c.args.pass.now c.take_turn-ended.new.pass (returns-in-Some-last-clause-adds g c)

pub returns-in-Some-last-clause-settles : goal.returns-in-Some-last-clause-settles
returns-in-Some-last-clause-settles g c =
    let whole = but_then (Holds c.loop.hand) (RunsEntry c.take_turn-ended.result.1) c.args.pass.now c.loop.pass c.take_turn-ended.new.pass c.loop.invariant.3 c.take_turn-ended.ensures.settles c.take_turn-ended.ensures.follows
    c.take_turn-ended.ensures.trail c.take_turn-ended.ensures.ended in
    settled_all _ c.args.pass.now c.take_turn-ended.new.pass whole (λ n runs. absurd (over_runs_none c.take_turn-ended.result.1 _ c.in-Over-Idle.is n runs))

pub loop-preserved-in-Runs : goal.loop-preserved-in-Runs
loop-preserved-in-Runs g c =
    let whole = but_then (Holds c.loop.hand) (RunsEntry c.take_turn-ended.result.1) c.args.pass.now c.loop.pass c.take_turn-ended.new.pass c.loop.invariant.3 c.take_turn-ended.ensures.settles c.take_turn-ended.ensures.follows
    c.take_turn-ended.ensures.trail c.take_turn-ended.ensures.ended in (
      tt,
      tt,
      follows_then c.args.pass.now c.loop.pass c.take_turn-ended.new.pass c.loop.invariant.2 c.take_turn-ended.ensures.follows,
      held_as _ (Holds c.evaluate.result) c.args.pass.now c.take_turn-ended.new.pass whole (λ n runs. holds_what_ran c.in-Runs.lent c.evaluate.result c.evaluate.ensures n (subst (λ (begun : Begun). RunsEntry begun n) c.in-Runs.is runs)),
      adds_then _ c.args.pass.now c.loop.pass c.take_turn-ended.new.pass c.loop.invariant.4 c.take_turn-ended.ensures.adds c.take_turn-ended.ensures.follows,
      hand_of c.take_turn-ended.new.pass c.in-Runs.lent c.evaluate.result c.evaluate.ensures (subst (IsLent c.take_turn-ended.new.pass) c.in-Runs.is c.take_turn-ended.ensures.lent),
    )

pub loop-preserved-in_default : goal.loop-preserved-in_default
loop-preserved-in_default g c =
    let whole = but_then (Holds c.loop.hand) (RunsEntry c.take_turn-ended.result.1) c.args.pass.now c.loop.pass c.take_turn-ended.new.pass c.loop.invariant.3 c.take_turn-ended.ensures.settles c.take_turn-ended.ensures.follows
    c.take_turn-ended.ensures.trail c.take_turn-ended.ensures.ended in (
      tt,
      tt,
      follows_then c.args.pass.now c.loop.pass c.take_turn-ended.new.pass c.loop.invariant.2 c.take_turn-ended.ensures.follows,
      held_as _ (Holds Empty) c.args.pass.now c.take_turn-ended.new.pass whole (λ n runs. absurd (over_runs_none c.take_turn-ended.result.1 _ c.in-Over-Idle.is n runs)),
      adds_then _ c.args.pass.now c.loop.pass c.take_turn-ended.new.pass c.loop.invariant.4 c.take_turn-ended.ensures.adds c.take_turn-ended.ensures.follows,
      tt,
    )

pub loop-preserved : goal.loop-preserved
loop-preserved g c =
    let whole = but_then (Holds c.loop.hand) (RunsEntry c.take_turn-ended.result.1) c.args.pass.now c.loop.pass c.take_turn-ended.new.pass c.loop.invariant.3 c.take_turn-ended.ensures.settles c.take_turn-ended.ensures.follows
    c.take_turn-ended.ensures.trail c.take_turn-ended.ensures.ended in (
      tt,
      tt,
      follows_then c.args.pass.now c.loop.pass c.take_turn-ended.new.pass c.loop.invariant.2 c.take_turn-ended.ensures.follows,
      held_as _ (Holds Empty) c.args.pass.now c.take_turn-ended.new.pass whole (λ n runs. absurd (over_runs_none c.take_turn-ended.result.1 _ c.in-Over.is n runs)),
      adds_then _ c.args.pass.now c.loop.pass c.take_turn-ended.new.pass c.loop.invariant.4 c.take_turn-ended.ensures.adds c.take_turn-ended.ensures.follows,
      tt,
    )
