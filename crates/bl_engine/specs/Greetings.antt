-- What a conversation tells first.
use Rattle.bl_engine.specs.declared.conversation.Opening.{Opening}
use Rattle.bl_engine.specs.declared.conversation.Opening.TheVariants.{Open, Full}
use Rattle.bl_engine.specs.declared.conversation.Closing.{Closing}
use Rattle.bl_engine.specs.declared.conversation.Closing.TheVariants.{GoesOn, FindsFull}

-- what closes that which is told first
abbrev pub greeting_of : Opening → Closing
greeting_of Open = GoesOn
greeting_of Full = FindsFull
