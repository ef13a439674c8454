use Rattle.std.proofs.Common.{ℕ, ap, ◌∙◌, subst}
use Rattle.bl_gate.specs.Gates.{PassView, Follows}
use Rattle.bl_worker.specs.Turns.{IsTurnOf}
use Rattle.bl_worker.proofs.Adding.{adds_no_line}
use Rattle.bl_worker.proofs.Handing.{begun_adds, begun_closed, begun_ran}
use Rattle.bl_worker.proofs.turn.work_once.Goals as goal

pub returns-in-Over-clause-adds : goal.returns-in-Over-clause-adds
returns-in-Over-clause-adds g c =
    let follows = subst (λ (p : PassView). Follows p c.turn-turn.result) c.take.ensures.taken c.turn-turn.ensures.follows in
    let own = c.turn-turn.ensures.own ∙ ap (λ (p : PassView). p.own) c.take.ensures.taken in
    begun_adds c.args.pass.now c.turn-turn.result c.begin_next-begun.new.turn c.leave.result follows own c.leave.ensures (λ (k : ℕ). IsTurnOf k c.in-Over.turn) c.in-Over.ensures.adds c.begin_next-begun.ensures.follows

pub returns-in-Over-clause-lines : goal.returns-in-Over-clause-lines
returns-in-Over-clause-lines g c = adds_no_line (λ (k : ℕ). IsTurnOf k c.in-Over.turn) c.args.pass.now c.leave.result (returns-in-Over-clause-adds g c)

pub returns-in-Runs-clause-adds : goal.returns-in-Runs-clause-adds
returns-in-Runs-clause-adds g c =
    let follows = subst (λ (p : PassView). Follows p c.turn-turn.result) c.take.ensures.taken c.turn-turn.ensures.follows in
    let own = c.turn-turn.ensures.own ∙ ap (λ (p : PassView). p.own) c.take.ensures.taken in
    begun_ran c.args.pass.now c.turn-turn.result c.begin_next-begun.new.turn c.leave.result follows own c.leave.ensures c.run.new.pass c.in-Runs.lent c.run.result
    c.in-Runs.ensures.adds c.begin_next-begun.ensures.follows c.run.ensures.turn c.run.ensures.adds c.run.ensures.follows

pub returns-in-Runs-clause-lines : goal.returns-in-Runs-clause-lines
returns-in-Runs-clause-lines g c = adds_no_line (λ (k : ℕ). IsTurnOf k c.run.result) c.args.pass.now c.run.new.pass (returns-in-Runs-clause-adds g c)

pub returns-in-Runs-clause-settles : goal.returns-in-Runs-clause-settles
returns-in-Runs-clause-settles g c =
    let follows = subst (λ (p : PassView). Follows p c.turn-turn.result) c.take.ensures.taken c.turn-turn.ensures.follows in
    let own = c.turn-turn.ensures.own ∙ ap (λ (p : PassView). p.own) c.take.ensures.taken in
    begun_closed c.args.pass.now c.turn-turn.result c.begin_next-begun.new.turn c.leave.result follows own c.leave.ensures c.run.new.pass c.in-Runs.lent c.in-Runs.ensures.begun c.run.ensures.follows c.run.ensures.closes
