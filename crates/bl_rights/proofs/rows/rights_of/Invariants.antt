use Rattle.std.proofs.Common.{◌≡◌, ◌≤◌, ◌*◌}
use Rattle.std.specs.Prelude.{sum_by}
use Rattle.std.specs.List.{range_with_len}
use Rattle.bl_rights.specs.Rows.{right_count}
use Rattle.bl_rights.proofs.rows.rights_of.Given as goal

-- the rights to the documents so far
abbrev pub invariant-loop-place : goal.invariant-loop-place
invariant-loop-place l =
    record {
      counted : l.count ≡ sum_by (λ o. right_count l.policy l.subject o) (range_with_len 0 l.place);
      within : l.count ≤ 3 * l.place;
    }
