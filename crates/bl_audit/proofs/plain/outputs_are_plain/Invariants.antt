use Rattle.std.proofs.Common.{take}
use Rattle.std.specs.List.{AllByRecursion}
use Rattle.bl_trail.specs.TrueText.{HasNoLf}
use Rattle.bl_audit.proofs.plain.outputs_are_plain.Given as goal

abbrev pub invariant-loop-text : goal.invariant-loop-text
invariant-loop-text l = AllByRecursion HasNoLf (take l.text-index l.outputs)
