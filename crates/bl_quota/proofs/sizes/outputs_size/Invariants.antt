use Rattle.std.proofs.Common.{◌≡◌, take}
use Rattle.std.specs.Prelude.{sum_by}
use Rattle.bl_sizes.specs.Counts.{in_word}
use Rattle.bl_sizes.specs.Sizes.{shown_size}
use Rattle.bl_quota.proofs.sizes.outputs_size.Given as goal

-- the texts so far are counted
abbrev pub invariant-loop-text : goal.invariant-loop-text
invariant-loop-text l = l.bytes ≡ in_word (sum_by shown_size (take l.text-index l.outputs))
