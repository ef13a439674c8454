use Rattle.std.proofs.Common.{◌≡◌, flat_map}
use Rattle.std.specs.Prelude.{fold}
use Rattle.std.specs.List.{range_with_len}
use Rattle.bl_rights.specs.Rows.{rows_of}
use Rattle.bl_rights_text.specs.Table.{head_texts, widened, widths_by}
use Rattle.bl_rights_text.proofs.overview.widths_of.Given as goal

-- of the subjects so far
abbrev pub invariant-loop-place : goal.invariant-loop-place
invariant-loop-place l =
    l.wide ≡ fold (widened l.setup) (widths_by head_texts) (flat_map (λ s. rows_of l.setup.policy s) (range_with_len 0 l.place))
