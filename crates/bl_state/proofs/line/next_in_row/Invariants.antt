use Rattle.std.proofs.Common.{◌≡◌}
use Rattle.bl_state.specs.Lines.{row_from}
use Rattle.bl_state.proofs.line.next_in_row.Given as goal

-- the cells up to there have no line
abbrev pub invariant-loop-place : goal.invariant-loop-place
invariant-loop-place l = row_from l.setup l.whose l.from ≡ row_from l.setup l.whose l.place
