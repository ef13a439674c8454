use Rattle.std.proofs.Common.{◌≡◌, ◌⊎◌, ℕ, ◌+◌, ◌<◌, ◌≤◌, get_or}
use Rattle.bl_policy.specs.Policy.{lowest}
use Rattle.bl_policy.specs.Cells.{modes_of, cell_of, cell_at, clearance_from, AreFailuresOf}
use Rattle.bl_policy.proofs.policy.cell.mend_row.Given as goal

-- the cells so far have been mended, and no other; and what was asked last is what the modes fail at its level
abbrev pub invariant-loop-column : goal.invariant-loop-column
invariant-loop-column l =
    record {
      last : AreFailuresOf (clearance_from l.subject) l.last.level l.last.failures;
      modes : modes_of l.cells ≡ modes_of l.initial.cells;
      mended : (o : ℕ) → o < l.column → cell_at l.cells (l.first + o) ≡ cell_of (clearance_from l.subject) (get_or l.levels o lowest) (cell_at l.initial.cells (l.first + o)).modes;
      others : (k : ℕ) → (k < l.first) ⊎ (l.first + l.column ≤ k) → cell_at l.cells k ≡ cell_at l.initial.cells k;
    }
