use Rattle.std.proofs.Common.{refl}
use Rattle.bl_engine.proofs.Hearings.{heard_nothing}
use Rattle.bl_engine.proofs.conversation.Conversation.new.Goals as goal

pub returns-clause-spoke : goal.returns-clause-spoke
returns-clause-spoke c names given left = record {
  cut = heard_nothing names _ refl refl refl;
  point = record { fresh = record { after = refl; pending = c.new.ensures.items; line = refl }; skips = tt; none = refl; quiet = refl };
}
