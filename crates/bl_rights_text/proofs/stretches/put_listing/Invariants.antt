use Rattle.std.proofs.Common.{◌-◌, flat_map, length}
use Rattle.std.specs.List.{range_with_len}
use Rattle.bl_wire.specs.Watch.{end_state}
use Rattle.bl_rights_text.specs.Stretches.{listing_text, stretch_text}
use Rattle.bl_rights_text.specs.declared.stretches.Stretch.TheVariants.{Each}
use Rattle.bl_rights_text.proofs.Putting.{HasPut}
use Rattle.bl_rights_text.proofs.stretches.put_listing.Given as goal

-- the stretches from here on are left
abbrev pub invariant-loop-place : goal.invariant-loop-place
invariant-loop-place g l =
    HasPut (flat_map (λ s. stretch_text l.overview (Each l.listing s)) (range_with_len l.place (length l.overview.setup.now.policy.subjects - l.place)))
    (listing_text l.overview l.listing) (end_state g.W.Write.contents l.fn.writer) (end_state g.W.Write.contents l.writer)
