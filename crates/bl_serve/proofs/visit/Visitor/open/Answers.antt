use Rattle.std.proofs.Common.{◌≡◌, [], length, refl, ap, subst, ◌∙◌, arith}
use Rattle.bl_setup.specs.Setup.{Setup}
use Rattle.bl_order.specs.Machine.{start}
use Rattle.bl_core.specs.Answers.{IsNotOpened}
use Rattle.bl_gate.specs.Gates.{GateId, state_seen}
use Rattle.bl_session.proofs.RunLaws.{setup_after}
use Rattle.bl_serve.proofs.Coming.{come_opened, come_zero}
use Rattle.bl_serve.proofs.visit.Visitor.open.Goals as goal

-- the subject is in the setup of the hall that the gate was given
pub unreachable-requires : goal.unreachable-requires
unreachable-requires g c =
    let pass = c.open.new.pass in
    let gate = c.args.self.now.gate.now in
    let unknown = subst (IsNotOpened (state_seen pass) c.args.subject) c.in-Err-Stranger.field-0-is c.in-Err-Stranger.ensures.err.1 in
    let same : pass.gate ≡ gate = c.open.ensures.follows.gate ∙ c.requires.come.own.gate_is in
    let setup : (state_seen pass).setup ≡ gate.base.setup = setup_after (start pass.gate.base.setup pass.gate.base.limit) pass.seen ∙ ap (λ (k : GateId). k.base.setup) same in
    omega (arith, unknown, c.requires.serves, ap (λ (k : Setup). length k.policy.subjects) setup)

pub returns-in-Ok-clause-opened : goal.returns-in-Ok-clause-opened
returns-in-Ok-clause-opened g c = λ _. (
  come_opened c.args.self.now.gate.now c.args.self.now.first.value c.args.visit.now [] _ c.in-Ok.session c.args.subject c.requires.come (come_zero c.args.self.now.gate.now c.args.self.now.first.value c.args.visit.now [] c.requires.come).1 c.open.ensures.follows c.open.ensures.trail c.in-Ok.ensures.ok refl refl refl,
  refl,
)
