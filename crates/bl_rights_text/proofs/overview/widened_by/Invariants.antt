use Rattle.std.proofs.Common.{◌≡◌}
use Rattle.std.specs.Prelude.{filter_map, fold}
use Rattle.std.specs.List.{range_with_len}
use Rattle.bl_rights.specs.Rows.{row_at}
use Rattle.bl_rights_text.specs.Table.{widened}
use Rattle.bl_rights_text.proofs.overview.widened_by.Given as goal

-- of the documents so far
abbrev pub invariant-loop-place : goal.invariant-loop-place
invariant-loop-place l =
    l.wide ≡ fold (widened l.setup) l.fn.widths (filter_map (λ o. row_at l.setup.policy l.subject o) (range_with_len 0 l.place))
