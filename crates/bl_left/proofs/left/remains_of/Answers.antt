use Rattle.std.proofs.Common.{refl, subst}
use Rattle.bl_order.specs.Machine.{state_after}
use Rattle.bl_left.specs.Ended.{IsAtItsEnd}
use Rattle.bl_left.proofs.left.remains_of.Goals as goal

pub returns-in-Rejected : goal.returns-in-Rejected
returns-in-Rejected c x replays =
    (subst (IsAtItsEnd x c.args.text.now c.follow_all.new.replayer) c.in-Rejected.is (c.in_ok-line.ensures x replays), refl)

pub standing-requires : goal.standing-requires
standing-requires c =
    let at = subst (IsAtItsEnd c.requires.0 c.args.text.now c.follow_all.new.replayer) c.in-Accepted.is (c.in_ok-line.ensures c.requires.0 c.requires.1) in
    (state_after c.requires.0 at.0, at.3)

pub returns-in_ok-setup-in-Accepted : goal.returns-in_ok-setup-in-Accepted
returns-in_ok-setup-in-Accepted c x replays =
    let at = subst (IsAtItsEnd x c.args.text.now c.follow_all.new.replayer) c.in-Accepted.is (c.in_ok-line.ensures x replays) in
    (at.0, at.1, at.2, at.3.0.reached, c.in_ok-setup-in-Accepted.ensures (state_after x at.0) at.3)
