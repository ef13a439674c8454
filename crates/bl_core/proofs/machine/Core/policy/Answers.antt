use Rattle.std.proofs.Common.{rules, subst}
use Rattle.bl_order.specs.Headline.{Holds}
use Rattle.bl_order.specs.TheHeadline.{IsTheHeadline}
use Rattle.bl_core.specs.View.{state_of}
use Rattle.bl_core.proofs.machine.Core.policy.Goals as goal

pub returns-clause-holds : goal.returns-clause-holds
returns-clause-holds c = subst Holds c.self.view_is (c.each_state_holds.ensures (state_of c.self.inside) c.self.invariant.reached)

pub returns-clause-headline : goal.returns-clause-headline
returns-clause-headline c = subst IsTheHeadline c.self.view_is (c.headline.ensures.state (state_of c.self.inside) c.self.invariant.reached)

pub returns-clause-value : goal.returns-clause-value
returns-clause-value c = search rules
