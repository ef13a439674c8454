use Rattle.std.proofs.Common.{◌≡◌, ◌-◌, length}
use Rattle.std.specs.Prelude.{find}
use Rattle.std.specs.List.{range_with_len}
use Rattle.bl_rights.specs.Rows.{documents_in, has_right}
use Rattle.bl_rights.proofs.remarks.first_right.Given as goal

-- none is found so far
abbrev pub invariant-loop-place : goal.invariant-loop-place
invariant-loop-place l =
    find (λ o. has_right l.policy l.subject o) (documents_in l.policy)
    ≡ find (λ o. has_right l.policy l.subject o) (range_with_len l.place (length l.policy.documents - l.place))
