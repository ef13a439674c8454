use Rattle.std.proofs.Common.{◌≤◌}
use Rattle.bl_clock.proofs.timed.lines_in_piece.Given as goal

abbrev pub invariant-loop-byte : goal.invariant-loop-byte
invariant-loop-byte l = l.lines ≤ l.byte-index
