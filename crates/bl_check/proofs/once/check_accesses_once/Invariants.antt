use Rattle.std.proofs.Common.{take}
use Rattle.std.specs.Prelude.{All}
use Rattle.bl_work.specs.WhenFaults.{IsOnce}
use Rattle.bl_check.proofs.Declared.{behind_first}
use Rattle.bl_check.proofs.once.check_accesses_once.Given as goal

-- the documents so far are declared once
abbrev pub invariant-loop-i : goal.invariant-loop-i
invariant-loop-i l = All IsOnce (behind_first l.first.document.now (take l.i l.more))
