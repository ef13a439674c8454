use Rattle.std.proofs.Common.{subst}
use Rattle.bl_order.specs.Machine.{State, Needs}
use Rattle.bl_hall.specs.Chronicle.{state_now}
use Rattle.bl_replay.proofs.Taking.{asked-admits}
use Rattle.bl_rebuild.proofs.remade.Remade.make.Goals as goal

pub admit-requires-clause-may : goal.admit-requires-clause-may
admit-requires-clause-may c =
    let x : State = state_now c.args.self.now.hall in
    let next = c.requires.next in
    let asked = asked-admits x next.0 c.in-Admits.session c.in-Admits.ordinal c.in-Admits.text.now (c.in-Admits.ensures x next.0 c.requires.small next.1.0 next.1.1) in
    (asked.0, (subst (Needs x) asked.1 next.1.0, asked.2))
