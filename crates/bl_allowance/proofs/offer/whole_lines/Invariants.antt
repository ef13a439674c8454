use Rattle.std.proofs.Common.{◌≡◌, ◌≤◌, false, take}
use Rattle.bl_allowance.specs.Lines.{AreWhole}
use Rattle.bl_allowance.proofs.offer.whole_lines.Given as goal

-- those of the bytes that were looked at
abbrev pub invariant-loop-at : goal.invariant-loop-at
invariant-loop-at l = AreWhole (take l.at l.bytes) l.most l.whole.bytes l.whole.lines × (l.whole.long ≡ false) × (l.whole.lines ≤ l.most)
