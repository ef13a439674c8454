use Rattle.std.proofs.Common.{◌≡◌, ◌≤◌, ◌*◌}
use Rattle.std.specs.Prelude.{sum_by}
use Rattle.std.specs.List.{range_with_len}
use Rattle.bl_rights.specs.Rows.{rights_of}
use Rattle.bl_rights.proofs.rows.rights.Given as goal

-- the rights of the subjects so far
abbrev pub invariant-loop-place : goal.invariant-loop-place
invariant-loop-place l =
    record {
      counted : l.count ≡ sum_by (λ s. rights_of l.policy s) (range_with_len 0 l.place);
      within : l.count ≤ 3072 * l.place;
    }
