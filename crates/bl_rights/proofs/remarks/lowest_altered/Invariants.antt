use Rattle.std.proofs.Common.{◌≡◌}
use Rattle.std.specs.Prelude.{not}
use Rattle.std.specs.List.{list_any, range_with_len}
use Rattle.bl_level.specs.Level.{SecurityLevel}
use Rattle.bl_rights.specs.Remarks.{alters_below, is_above}
use Rattle.bl_rights.proofs.remarks.lowest_altered.Given as goal

-- of the documents so far
abbrev pub invariant-loop-place : goal.invariant-loop-place
invariant-loop-place l =
    (level : SecurityLevel) → list_any (λ o. alters_below l.policy l.subject level o) (range_with_len 0 l.place) ≡ not (is_above l.low level)
