use Rattle.std.proofs.Common.{◌≡◌, false}
use Rattle.bl_wire.specs.Watch.{end_state}
use Rattle.bl_state.proofs.Putting.{HasPut}
use Rattle.bl_state.proofs.Spelling.{IsThere, lines_left}
use Rattle.bl_state.proofs.put.put_setup.Given as goal

-- the lines so far were put, all of them
abbrev pub invariant-lines : goal.invariant-lines
invariant-lines g l =
    HasPut l.setup l.next (end_state g.W.Write.contents l.fn.writer) (end_state g.W.Write.contents l.writer)
    × IsThere l.setup l.next × (l.writer.failed ≡ false)

abbrev pub decreases-lines : goal.decreases-lines
decreases-lines g l = lines_left l.setup l.next
