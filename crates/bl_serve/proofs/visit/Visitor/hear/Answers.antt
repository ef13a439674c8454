use Rattle.std.specs.Prelude.{IfErr}
use Rattle.std.proofs.Common.{rules, ◌<◌, length, subst, arith}
use Rattle.bl_hall.specs.Told.{IsUnanswered}
use Rattle.bl_gate.specs.Gates.{state_seen}
use Rattle.bl_serve.proofs.Going.{kept_session}
use Rattle.bl_worker.proofs.Adding.{adds_alone, adds_itself}
use Rattle.bl_serve.specs.Courses.{KeepsQuiet}
use Rattle.bl_serve.proofs.Quiet.{quiet_once, quiet_then}
use Rattle.bl_serve.proofs.visit.Visitor.hear.Goals as goal

pub returns-in-Ok-Some-clause-quiet : goal.returns-in-Ok-Some-clause-quiet
returns-in-Ok-Some-clause-quiet g c =
    quiet_then c.args.pass.now c.loop.pass c.answers-found.new.pass c.loop.invariant.2
    (quiet_once c.loop.pass c.answers-found.new.pass c.answers-found.ensures.follows (adds_itself _ c.loop.pass c.answers-found.new.pass c.answers-found.ensures.own) c.answers-found.ensures.trail)

pub returns-in-Ok-Some-clause-told : goal.returns-in-Ok-Some-clause-told
returns-in-Ok-Some-clause-told g c = search rules

-- the session stays open
pub unreachable-requires : goal.unreachable-requires
unreachable-requires g c =
    let heard : KeepsQuiet c.args.pass.now c.answers-found.new.pass =
    quiet_then c.args.pass.now c.loop.pass c.answers-found.new.pass c.loop.invariant.2
    (quiet_once c.loop.pass c.answers-found.new.pass c.answers-found.ensures.follows (adds_itself _ c.loop.pass c.answers-found.new.pass c.answers-found.ensures.own) c.answers-found.ensures.trail)
    in
    let there : c.args.session < length (state_seen c.answers-found.new.pass).sessions = (kept_session c.args.pass.now c.answers-found.new.pass heard.follows c.answers-found.ensures.trail c.args.session c.requires.open).there in
    let after = state_seen c.answers-found.new.pass in
    let fault : IsUnanswered after c.args.session c.in-Err-Session.field-0 =
    subst (λ found. IfErr found (IsUnanswered after c.args.session)) c.in-Err-Session.is c.answers-found.ensures.fault in
    let session = rw c.in-Err-Session.is at c.in-Err-Session.field-0-is in
    let closed = subst (IsUnanswered after c.args.session) session fault in
    omega (arith, there, closed)

pub loop-preserved-then-not-tell : goal.loop-preserved-then-not-tell
loop-preserved-then-not-tell g c =
    let heard : KeepsQuiet c.args.pass.now c.answers-found.new.pass =
    quiet_then c.args.pass.now c.loop.pass c.answers-found.new.pass c.loop.invariant.2
    (quiet_once c.loop.pass c.answers-found.new.pass c.answers-found.ensures.follows (adds_itself _ c.loop.pass c.answers-found.new.pass c.answers-found.ensures.own) c.answers-found.ensures.trail)
    in (
      tt,
      tt,
      quiet_then c.args.pass.now c.answers-found.new.pass c.work_once-turn.new.pass heard
          (quiet_once c.answers-found.new.pass c.work_once-turn.new.pass c.work_once-turn.ensures.follows (adds_alone _ c.answers-found.new.pass c.work_once-turn.new.pass c.work_once-turn.ensures.adds) c.work_once-turn.ensures.trail),
    )

pub loop-preserved : goal.loop-preserved
loop-preserved g c =
    let heard : KeepsQuiet c.args.pass.now c.answers-found.new.pass =
    quiet_then c.args.pass.now c.loop.pass c.answers-found.new.pass c.loop.invariant.2
    (quiet_once c.loop.pass c.answers-found.new.pass c.answers-found.ensures.follows (adds_itself _ c.loop.pass c.answers-found.new.pass c.answers-found.ensures.own) c.answers-found.ensures.trail)
    in (
      tt,
      tt,
      quiet_then c.args.pass.now c.answers-found.new.pass c.work_once-turn.new.pass heard
          (quiet_once c.answers-found.new.pass c.work_once-turn.new.pass c.work_once-turn.ensures.follows (adds_alone _ c.answers-found.new.pass c.work_once-turn.new.pass c.work_once-turn.ensures.adds) c.work_once-turn.ensures.trail),
    )

pub returns-in-Err-Memory-clause-quiet : goal.returns-in-Err-Memory-clause-quiet
returns-in-Err-Memory-clause-quiet g c =
    quiet_then c.args.pass.now c.loop.pass c.answers-found.new.pass c.loop.invariant.2
    (quiet_once c.loop.pass c.answers-found.new.pass c.answers-found.ensures.follows (adds_itself _ c.loop.pass c.answers-found.new.pass c.answers-found.ensures.own) c.answers-found.ensures.trail)
