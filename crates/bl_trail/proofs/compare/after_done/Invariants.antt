use Rattle.std.proofs.Common.{◌++◌, take, codes, flat_map}
use Rattle.std.specs.Prelude.{option_copied}
use Rattle.bl_wire.specs.Replies.{output_text}
use Rattle.bl_trail.specs.Fronts.{IsLeft}
use Rattle.bl_trail.proofs.compare.after_done.Given as goal

abbrev pub invariant-loop-output : goal.invariant-loop-output
invariant-loop-output l = IsLeft (option_copied l.text) (codes " done" ++ flat_map output_text (take l.output-index l.outputs)) (option_copied l.rest)
