use Rattle.std.proofs.Common.{◌≡◌, true, sym, ap, ◌∙◌, subst}
use Rattle.bl_order.specs.Machine.{has_ended}
use Rattle.bl_gate.specs.Gates.{PassView, state_seen}
use Rattle.bl_worker.specs.Turns.{AddsTurnsAlone}
use Rattle.bl_worker.specs.Hands.{RunsEntry, SettlesBut}
use Rattle.bl_worker.proofs.Adding.{adds_alone, adds_itself, adds_then}
use Rattle.bl_worker.proofs.Handing.{worked}
use Rattle.bl_worker.proofs.Settling.{passes_later}
use Rattle.bl_worker.proofs.Working.{settles_from}
use Rattle.bl_worker.proofs.hand.take_turn.Goals as goal

pub returns-clause-adds : goal.returns-clause-adds
returns-clause-adds g c =
    let own = c.turn-turn.ensures.own ∙ ap (λ (p : PassView). p.own) c.take.ensures.taken in
    let put_down = adds_alone _ c.turn-turn.result c.put_down-put_down.new.turn c.put_down-put_down.ensures.adds in
    let begun = adds_alone _ c.put_down-put_down.new.turn c.begin_next-begun.new.turn c.begin_next-begun.ensures.adds in
    subst (AddsTurnsAlone c.args.pass.now) (sym c.leave.ensures)
    (adds_then _ c.args.pass.now c.put_down-put_down.new.turn c.begin_next-begun.new.turn
    (adds_then _ c.args.pass.now c.turn-turn.result c.put_down-put_down.new.turn (adds_itself _ c.args.pass.now c.turn-turn.result own) put_down c.put_down-put_down.ensures.follows)
    begun c.begin_next-begun.ensures.follows)

pub returns-clause-settles : goal.returns-clause-settles
returns-clause-settles g c =
    let own = c.turn-turn.ensures.own ∙ ap (λ (p : PassView). p.own) c.take.ensures.taken in
    subst (SettlesBut (RunsEntry c.begin_next-begun.result) c.args.pass.now) (sym c.leave.ensures)
    (worked c.args.pass.now c.put_down-put_down.new.turn c.begin_next-begun.new.turn c.begin_next-begun.result
    (settles_from c.args.pass.now c.turn-turn.result c.put_down-put_down.new.turn own c.put_down-put_down.ensures.settles)
    c.begin_next-begun.ensures.begun c.begin_next-begun.ensures.follows c.begin_next-begun.ensures.trail)

pub returns-clause-ended : goal.returns-clause-ended
returns-clause-ended g c n held =
    subst (λ (p : PassView). has_ended (state_seen p) n ≡ true) (sym c.leave.ensures)
    ((passes_later c.put_down-put_down.new.turn c.begin_next-begun.new.turn c.begin_next-begun.ensures.follows c.begin_next-begun.ensures.trail).ended n (c.put_down-put_down.ensures.ended n held))
