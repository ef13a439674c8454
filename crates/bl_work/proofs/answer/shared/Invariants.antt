use Rattle.std.proofs.Common.{◌≡◌, take}
use Rattle.bl_work.proofs.answer.shared.Given as goal

abbrev pub invariant-loop-text : goal.invariant-loop-text
invariant-loop-text l = l.shares.items ≡ take l.text-index l.texts.items
