use Rattle.std.proofs.Common.{◌≡◌, ◌∷◌, ◌++◌, take}
use Rattle.bl_wire.specs.Replies.{label_text}
use Rattle.bl_explaining_event.proofs.labels.put_path.Given as goal

abbrev pub invariant-loop-number : goal.invariant-loop-number
invariant-loop-number l = l.text.items ≡ l.fn.text.items ++ label_text (l.ordinal ∷ take l.number-index l.path)
