use Rattle.std.proofs.Common.{refl}
use Rattle.bl_entrance.proofs.Admitting.{gives-one}
use Rattle.bl_entrance.proofs.acceptor.Floor.admit.Goals as goal

pub returns-then-give-clause-given : goal.returns-then-give-clause-given
returns-then-give-clause-given c = gives-one _ _ _ _ _ (c.give.ensures.given c.if-give.true) refl
