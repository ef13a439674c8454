use Rattle.std.proofs.Common.{◌≡◌}
use Rattle.bl_state.specs.Lines.{cells_from}
use Rattle.bl_state.proofs.line.cell_from.Given as goal

-- the subjects up to there have no right
abbrev pub invariant-loop-place : goal.invariant-loop-place
invariant-loop-place l = cells_from l.setup l.from ≡ cells_from l.setup l.place
