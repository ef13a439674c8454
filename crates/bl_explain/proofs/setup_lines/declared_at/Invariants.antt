use Rattle.std.proofs.Common.{◌+◌, ◌≤◌, length}
use Rattle.bl_setup.specs.Lines.{file_lines}
use Rattle.bl_explain.specs.SetupLines.{SpellsIt}
use Rattle.bl_explain.proofs.Passing.{Passed}
use Rattle.bl_explain.proofs.setup_lines.declared_at.Given as goal

-- the lines so far are passed, and there are no more of them than bytes
abbrev pub invariant-loop-rest : goal.invariant-loop-rest
invariant-loop-rest l =
    record {
      passed : Passed (SpellsIt l.sought) (file_lines l.bytes) (file_lines l.rest) l.number;
      counted : l.number + length l.rest ≤ length l.bytes;
    }

abbrev pub decreases-loop-rest : goal.decreases-loop-rest
decreases-loop-rest l = length l.rest
