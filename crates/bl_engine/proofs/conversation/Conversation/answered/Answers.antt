use Rattle.std.proofs.Common.{refl}
use Rattle.bl_engine.proofs.Turnings.{answered_as}
use Rattle.bl_engine.proofs.conversation.Conversation.answered.Goals as goal

pub returns-clause-answered : goal.returns-clause-answered
returns-clause-answered c = answered_as c.args.self.now _ c.in-Settles.closing (λ input. cc) c.in-Settles.is refl refl refl refl
