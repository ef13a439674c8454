use Rattle.std.proofs.Common.{◌≡◌, take}
use Rattle.bl_monitor.proofs.monitor.shared.Given as goal

abbrev pub invariant-loop-content : goal.invariant-loop-content
invariant-loop-content l = l.shared.items ≡ take l.content-index l.contents
