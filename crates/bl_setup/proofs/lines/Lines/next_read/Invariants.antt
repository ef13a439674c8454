use Rattle.std.proofs.Common.{◌≡◌, ◌≤◌, length}
use Rattle.bl_setup.specs.Lines.{lines_read, file_lines}
use Rattle.bl_setup.specs.Taking.{Skips}
use Rattle.bl_setup.proofs.lines.Lines.next_read.Given as goal

abbrev pub invariant-loop-line : goal.invariant-loop-line
invariant-loop-line l = record {
  same : lines_read l.fn.self.rest.now ≡ lines_read l.self.rest.now;
  fewer : length l.self.rest.now ≤ length l.fn.self.rest.now;
  skips : Skips l.fn.self.number (file_lines l.fn.self.rest.now) l.self.number (file_lines l.self.rest.now);
}

abbrev pub decreases-loop-line : goal.decreases-loop-line
decreases-loop-line l = length l.self.rest.now
