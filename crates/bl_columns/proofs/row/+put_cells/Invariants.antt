use Rattle.std.proofs.Common.{length}
use Rattle.bl_columns.proofs.row.+put_cells.Given as goal

-- fewer cells are left
abbrev pub decreases-put_cells : goal.decreases-put_cells
decreases-put_cells l = length l.cells.now
