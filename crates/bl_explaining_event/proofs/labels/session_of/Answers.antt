use Rattle.std.proofs.Common.{◌∙◌, sym}
use Rattle.bl_hall.proofs.Answering.{origin-there}
use Rattle.bl_explaining_event.proofs.Upward.{parent-up, session-up}
use Rattle.bl_explaining_event.proofs.labels.session_of.Goals as goal

pub up-smaller : goal.up-smaller
up-smaller c =
    (parent-up c.args.core.now c.requires.reached c.up.at c.in-Some.origin c.in-Parent.parent (sym c.in-Some.is ∙ c.origin.ensures) (sym c.above_of.ensures ∙ c.in-Parent.is)).0

pub up-preserved : goal.up-preserved
up-preserved c =
    let above = parent-up c.args.core.now c.requires.reached c.up.at c.in-Some.origin c.in-Parent.parent (sym c.in-Some.is ∙ c.origin.ensures)
    (sym c.above_of.ensures ∙ c.in-Parent.is) in
    (above.1.0, c.up.invariant.1 ∙ above.1.1)

pub unreachable-requires : goal.unreachable-requires
unreachable-requires c = origin-there c.args.core.now.order c.up.at c.up.invariant.0 (sym c.in_default.is ∙ c.origin.ensures)

pub returns-in-Session : goal.returns-in-Session
returns-in-Session c =
    session-up c.args.core.now c.requires.reached c.up.at c.in-Some.origin c.in-Session.session (sym c.in-Some.is ∙ c.origin.ensures)
    (sym c.above_of.ensures ∙ c.in-Session.is) ∙ sym c.up.invariant.1
