use Rattle.std.proofs.Common.{◌≡◌, ◌++◌, codes, decimal, flat_map, take}
use Rattle.bl_wire.specs.Replies.{output_text}
use Rattle.bl_trail.proofs.text.short_end.Given as goal

abbrev pub invariant-loop-text : goal.invariant-loop-text
invariant-loop-text l = l.line.items ≡ codes "end " ++ (decimal l.n ++ (codes " done" ++ flat_map output_text (take l.text-index l.outputs)))
