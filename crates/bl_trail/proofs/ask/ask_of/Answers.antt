use Rattle.bl_trail.proofs.AskingLaws.{asks-event}
use Rattle.bl_trail.proofs.ask.ask_of.Goals as goal

pub returns : goal.returns
returns c x event small step text = asks-event x small event c.args.line.now _ step c.asked.ensures text
