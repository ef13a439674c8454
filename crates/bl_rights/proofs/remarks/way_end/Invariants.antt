use Rattle.std.proofs.Common.{◌≡◌, ◌-◌, length}
use Rattle.std.specs.Prelude.{find}
use Rattle.std.specs.List.{range_with_len}
use Rattle.bl_policy.specs.Policy.{level_of}
use Rattle.bl_rights.specs.Remarks.{alters_below}
use Rattle.bl_rights.specs.Rows.{documents_in}
use Rattle.bl_rights.proofs.remarks.way_end.Given as goal

-- none is found so far
abbrev pub invariant-loop-place : goal.invariant-loop-place
invariant-loop-place l =
    find (λ o. alters_below l.policy l.subject (level_of l.policy l.fn.from) o) (documents_in l.policy)
    ≡ find (λ o. alters_below l.policy l.subject (level_of l.policy l.fn.from) o) (range_with_len l.place (length l.policy.documents - l.place))
