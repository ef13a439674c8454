use Rattle.std.proofs.Common.{take}
use Rattle.std.specs.List.{flat_map}
use Rattle.bl_wire.specs.Watch.{Puts, end_state}
use Rattle.bl_live.specs.Telling.{ended_line}
use Rattle.bl_serving.proofs.told.tell_sessions.Given as goal

abbrev pub invariant-loop-one : goal.invariant-loop-one
invariant-loop-one g l =
    Puts (flat_map ended_line (take l.one-index l.ended)) (end_state g.E.Write.contents l.fn.errors) (end_state g.E.Write.contents l.errors)
