use Rattle.std.proofs.Common.{◌∷◌, take}
use Rattle.bl_wire.specs.Replies.{label_text}
use Rattle.bl_wire.specs.Watch.{Puts, end_state}
use Rattle.bl_wire.proofs.words.put_label.Given as goal

abbrev pub invariant-loop-number : goal.invariant-loop-number
invariant-loop-number g l = Puts (label_text (l.ordinal ∷ take l.number-index l.path)) (end_state g.W.Write.contents l.fn.writer) (end_state g.W.Write.contents l.writer)
