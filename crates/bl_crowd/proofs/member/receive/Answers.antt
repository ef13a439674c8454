use Rattle.std.proofs.Common.{ap, subst, arith, length}
use Rattle.bl_setup.specs.Setup.{Setup}
use Rattle.bl_order.specs.Machine.{Opens}
use Rattle.bl_core.specs.Answers.{IsNotOpened}
use Rattle.bl_gate.specs.Gates.{GateId, PassView, state_seen}
use Rattle.bl_worker.specs.Turns.{IsNoLine}
use Rattle.bl_worker.proofs.Adding.{adds_call, adds_itself}
use Rattle.bl_crowd.proofs.Meeting.{setup_is}
use Rattle.bl_crowd.proofs.member.receive.Goals as goal

-- the subject is in the setup of the hall that the gate was given
pub unreachable-requires : goal.unreachable-requires
unreachable-requires c =
    let q = c.open.new.self in
    let unknown = subst (IsNotOpened (state_seen q) c.args.subject) c.in-Err-Stranger.field-0-is c.in-Err-Stranger.ensures.err.1 in
    let same = ap (λ (g : GateId). length g.base.setup.policy.subjects) c.open.ensures.follows.gate in
    let setup = ap (λ (s : Setup). length s.policy.subjects) (setup_is q) in
    let known = c.requires in
    omega (arith, unknown, same, setup, known)

pub returns-in-Ok-clause-lines : goal.returns-in-Ok-clause-lines
returns-in-Ok-clause-lines c = adds_call (λ _. IsNoLine) c.args.turn.now c.open.new.self (Opens c.args.subject) _ c.in-Ok.ensures.ok tt

pub returns-in-Err-SessionsFull-clause-lines : goal.returns-in-Err-SessionsFull-clause-lines
returns-in-Err-SessionsFull-clause-lines c = adds_itself (λ _. IsNoLine) c.args.turn.now c.open.new.self (ap (λ (p : PassView). p.own) c.in-Err-SessionsFull.ensures.err.0)

pub returns-in-Err-SessionsFull-clause-received : goal.returns-in-Err-SessionsFull-clause-received
returns-in-Err-SessionsFull-clause-received c =
    let full = subst (IsNotOpened (state_seen c.open.new.self) c.args.subject) c.in-Err-SessionsFull.field-0-is c.in-Err-SessionsFull.ensures.err.1 in (
      ap (λ (p : PassView). p.own) c.in-Err-SessionsFull.ensures.err.0,
      record { trail = c.open.ensures.trail; full = full.1 },
    )
