use Rattle.std.proofs.Common.{◌≡◌}
use Rattle.bl_doors.specs.Doors.{stand_at}
use Rattle.bl_doors.proofs.doors.Doors.open_at.Given as goal

-- a door stands at each place so far
abbrev pub invariant-loop-place : goal.invariant-loop-place
invariant-loop-place g l = record { so_far : stand_at l.doors ≡ l.yielded }
