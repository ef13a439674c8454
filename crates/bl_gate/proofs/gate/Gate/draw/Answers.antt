use Rattle.std.proofs.Common.{rules, subst, sym}
use Rattle.bl_gate.specs.Views.{IsIdle}
use Rattle.bl_gate.specs.Turns.{Sat}
use Rattle.bl_gate.proofs.Steps.{draws}
use Rattle.bl_gate.proofs.gate.Gate.draw.Goals as goal

pub compare_exchange-found-requires : goal.compare_exchange-found-requires
compare_exchange-found-requires g c = (
  search rules,
  search rules,
  draws _ _ _ _ _ (subst (λ (m : Sat). IsIdle m.0) (sym c.loop.invariant.1) c.requires.idle) (search rules),
)
