use Rattle.std.proofs.Common.{rules, ◌≡◌, ap, sym, ◌∙◌, arith}
use Rattle.bl_gate.specs.Gates.{GateId, PassView}
use Rattle.bl_gate.proofs.Steps.{splits}
use Rattle.bl_gate.proofs.gate.Gate.split_pass.Goals as goal

pub split_seat-other-requires : goal.split_seat-other-requires
split_seat-other-requires c =
    let same = c.into_seat-seat.ensures.same ∙ c.take.ensures.taken in
    let is : c.into_seat-seat.result.0.me.0.parts ≡ c.args.pass.now.parts = c.into_seat-seat.ensures.parts ∙ ap (λ (q : PassView). q.parts) same in
    let r = c.requires.some in (
      ap (λ (q : PassView). q.gate.table) same ∙ (ap (λ (i : GateId). i.table) c.requires.gate ∙ sym (ap (λ (i : GateId). i.table) c.self.view_is)),
      search rules,
      splits _ _ _ c.into_seat-seat.ensures.idle.0 (omega arith),
    )
