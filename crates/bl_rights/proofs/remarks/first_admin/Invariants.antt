use Rattle.std.proofs.Common.{◌≡◌, ◌-◌, length}
use Rattle.std.specs.Prelude.{find}
use Rattle.std.specs.List.{range_with_len}
use Rattle.bl_policy.specs.Policy.{is_admin}
use Rattle.bl_rights.specs.Rows.{subjects_in}
use Rattle.bl_rights.proofs.remarks.first_admin.Given as goal

-- none is found so far
abbrev pub invariant-loop-place : goal.invariant-loop-place
invariant-loop-place l =
    find (λ s. is_admin l.policy s) (subjects_in l.policy)
    ≡ find (λ s. is_admin l.policy s) (range_with_len l.place (length l.policy.subjects - l.place))
