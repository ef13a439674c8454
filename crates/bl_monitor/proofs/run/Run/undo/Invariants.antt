use Rattle.std.proofs.Common.{◌≡◌, length, vec_len}
use Rattle.std.specs.Prelude.{All}
use Rattle.bl_monitor.specs.Undoing.{undone, IsOf}
use Rattle.bl_monitor.proofs.run.Run.undo.Given as goal

-- what is left to undo leads to the same contents
abbrev pub invariant-loop-undo : goal.invariant-loop-undo
invariant-loop-undo l =
    (undone l.contents l.undos.items ≡ undone l.initial.contents l.initial.undos.items) × All (IsOf (length l.contents)) l.undos.items

abbrev pub decreases-loop-undo : goal.decreases-loop-undo
decreases-loop-undo l = vec_len l.undos
