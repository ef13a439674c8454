use Rattle.std.proofs.Common.{◌≡◌, false}
use Rattle.bl_disk_tests.proofs.Bytewise.{HasAdded}
use Rattle.bl_disk_tests.proofs.torn.TornDevice.append.Given as goal

abbrev pub invariant-loop-i : goal.invariant-loop-i
invariant-loop-i l = HasAdded l.fn.self.memory l.self.memory l.text l.i × (l.self.failed ≡ false)
