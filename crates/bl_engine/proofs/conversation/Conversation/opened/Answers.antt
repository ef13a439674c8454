use Rattle.std.proofs.Common.{refl, ap}
use Rattle.bl_engine.specs.declared.conversation.Stage.TheVariants as stages
use Rattle.bl_engine.proofs.Turnings.{opened_as}
use Rattle.bl_engine.proofs.conversation.Conversation.opened.Goals as goal

pub returns-clause-opened : goal.returns-clause-opened
returns-clause-opened c = opened_as c.args.self.now _ c.args.opening c.requires (ap stages.Tells c.greeting.ensures) refl refl refl
