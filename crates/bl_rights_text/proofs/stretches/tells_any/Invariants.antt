use Rattle.std.proofs.Common.{◌≡◌, ◌-◌, flat_map, length}
use Rattle.std.specs.List.{range_with_len}
use Rattle.bl_rights_text.specs.Stretches.{listing_text, stretch_text}
use Rattle.bl_rights_text.specs.Table.{is_told}
use Rattle.bl_rights_text.specs.declared.stretches.Stretch.TheVariants.{Each}
use Rattle.bl_rights_text.proofs.stretches.tells_any.Given as goal

-- nothing is told so far
abbrev pub invariant-loop-place : goal.invariant-loop-place
invariant-loop-place l =
    is_told (listing_text l.overview l.listing)
    ≡ is_told (flat_map (λ s. stretch_text l.overview (Each l.listing s)) (range_with_len l.place (length l.overview.setup.now.policy.subjects - l.place)))
