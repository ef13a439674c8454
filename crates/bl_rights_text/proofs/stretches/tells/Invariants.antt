use Rattle.std.proofs.Common.{◌≡◌, ◌-◌, flat_map}
use Rattle.std.specs.List.{range_with_len}
use Rattle.bl_rights_text.specs.Stretches.{count_of, stretch_text, piece_of}
use Rattle.bl_rights_text.specs.Table.{is_told}
use Rattle.bl_rights_text.proofs.stretches.tells.Given as goal

-- nothing is told so far
abbrev pub invariant-loop-place : goal.invariant-loop-place
invariant-loop-place l =
    is_told (stretch_text l.overview l.stretch)
    ≡ is_told (flat_map (λ k. piece_of l.overview l.stretch k) (range_with_len l.place (count_of l.overview l.stretch - l.place)))
