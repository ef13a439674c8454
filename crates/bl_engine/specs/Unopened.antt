-- Before a session is open.
use Rattle.std.specs.Prelude.{Bool, true, false}
use Rattle.bl_engine.specs.declared.conversation.Stage.{Stage}
use Rattle.bl_engine.specs.declared.conversation.Stage.TheVariants as stages

-- the session is not open yet
abbrev pub is_unopened : Stage → Bool
is_unopened stages.Greets = true
is_unopened stages.Opens = true
is_unopened stages.Listens = false
is_unopened (stages.Settles closing) = false
is_unopened (stages.Tells closing) = false
is_unopened stages.Over = false
