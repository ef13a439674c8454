use Rattle.std.proofs.Common.{◌≡◌, ◌-◌, length}
use Rattle.std.specs.Prelude.{find}
use Rattle.std.specs.List.{range_with_len}
use Rattle.bl_rights.specs.Remarks.{leads_down}
use Rattle.bl_rights.specs.Rows.{documents_in}
use Rattle.bl_rights.proofs.remarks.way_down.Given as goal

-- none is found so far
abbrev pub invariant-loop-place : goal.invariant-loop-place
invariant-loop-place l =
    find (λ from. leads_down l.policy l.subject from) (documents_in l.policy)
    ≡ find (λ from. leads_down l.policy l.subject from) (range_with_len l.place (length l.policy.documents - l.place))
