use Rattle.bl_wire.specs.Watch.{end_state}
use Rattle.bl_live.specs.Telling.{ToldLive}
use Rattle.bl_live.proofs.live.Live.look.Given as goal

-- some causes were told again
abbrev pub invariant-loop-why : goal.invariant-loop-why
invariant-loop-why g l = ToldLive (end_state g.E.Write.contents l.initial.errors) (end_state g.E.Write.contents l.errors)
