use Rattle.std.proofs.Common.{◌-◌, flat_map}
use Rattle.std.specs.List.{range_with_len}
use Rattle.bl_wire.specs.Watch.{end_state}
use Rattle.bl_rights_text.specs.Stretches.{count_of, stretch_text, piece_of}
use Rattle.bl_rights_text.proofs.Putting.{HasPut}
use Rattle.bl_rights_text.proofs.stretches.put_stretch.Given as goal

-- the pieces from here on are left
abbrev pub invariant-loop-place : goal.invariant-loop-place
invariant-loop-place g l =
    HasPut (flat_map (λ k. piece_of l.overview l.stretch k) (range_with_len l.place (count_of l.overview l.stretch - l.place)))
    (stretch_text l.overview l.stretch) (end_state g.W.Write.contents l.fn.writer) (end_state g.W.Write.contents l.writer)
