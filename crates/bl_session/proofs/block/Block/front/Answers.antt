use Rattle.std.proofs.Common.{◌≡◌, ◌<◌, true, sym, subst, arith, length}
use Rattle.bl_order.specs.Machine.{State, has_ended}
use Rattle.bl_hall.specs.Chronicle.{state_now}
use Rattle.bl_hall.proofs.Answering.{ended-there}
use Rattle.bl_hall.proofs.Trails.{reached-now}
use Rattle.bl_session.proofs.block.Block.front.Goals as goal

pub ordinal_of-requires-clause-there : goal.ordinal_of-requires-clause-there
ordinal_of-requires-clause-there c =
    let h = c.args.hall.now in
    let n = c.index-n.result.now in
    let lt : c.args.self.now.next < length c.args.self.now.places.items = omega (arith, c.if-self-len.false, c.len.ensures) in
    let ended : has_ended (state_now h) n ≡ true = subst (λ p. has_ended (state_now h) p ≡ true) (sym c.index-n.ensures) (c.requires.ended c.args.self.now.next n lt) in
    subst (λ (y : State). n < length y.order) (sym c.core.ensures.value) (ended-there (state_now h) (reached-now h c.core.ensures.trail) n ended)
