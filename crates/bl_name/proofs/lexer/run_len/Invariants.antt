use Rattle.std.proofs.Common.{◌≡◌, ◌+◌, ◌-◌, ◌≤◌, length, drop}
use Rattle.bl_name.specs.Lexing.{run_len}
use Rattle.bl_name.proofs.lexer.run_len.Given as goal

-- the bytes before the end are all of the class
abbrev pub invariant-loop-end : goal.invariant-loop-end
invariant-loop-end l = (l.end + run_len l.class (drop l.end l.bytes) ≡ run_len l.class l.bytes) × (l.end ≤ length l.bytes)

abbrev pub decreases-loop-end : goal.decreases-loop-end
decreases-loop-end l = length l.bytes - l.end
