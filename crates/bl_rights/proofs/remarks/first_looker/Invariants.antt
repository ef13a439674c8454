use Rattle.std.proofs.Common.{◌≡◌, ◌-◌, length}
use Rattle.std.specs.Prelude.{find}
use Rattle.std.specs.List.{range_with_len}
use Rattle.bl_rights.specs.Remarks.{can_look}
use Rattle.bl_rights.specs.Rows.{subjects_in}
use Rattle.bl_rights.proofs.remarks.first_looker.Given as goal

-- none is found so far
abbrev pub invariant-loop-place : goal.invariant-loop-place
invariant-loop-place l =
    find (λ s. can_look l.policy s l.doc) (subjects_in l.policy)
    ≡ find (λ s. can_look l.policy s l.doc) (range_with_len l.place (length l.policy.subjects - l.place))
