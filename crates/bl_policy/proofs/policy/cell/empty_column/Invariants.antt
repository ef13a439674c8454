use Rattle.std.proofs.Common.{◌≡◌, ◌≢◌, ℕ, ◌+◌, ◌*◌, ◌<◌, get_or, map}
use Rattle.bl_policy.specs.Policy.{nobody}
use Rattle.bl_policy.specs.Cells.{cell_of, cell_at, clearance_from}
use Rattle.bl_policy.proofs.policy.cell.empty_column.Given as goal

-- the cells so far have been emptied, and no other has changed
abbrev pub invariant-loop-row : goal.invariant-loop-row
invariant-loop-row l =
    record {
      emptied : (s : ℕ) → s < l.row → cell_at l.cells (s * 1024 + l.column) ≡ cell_of (get_or (map clearance_from l.subjects) s nobody) l.level (record { 0 = 0 });
      others : (s o : ℕ) → o < 1024 → o ≢ l.column → cell_at l.cells (s * 1024 + o) ≡ cell_at l.initial.cells (s * 1024 + o);
    }
