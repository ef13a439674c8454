use Rattle.std.proofs.Common.{◌≡◌, ◌+◌, ◌-◌, ◌≤◌, length, drop}
use Rattle.bl_name.specs.declared.lexer.Class.TheVariants as class
use Rattle.bl_level.specs.Lexing.{run_len}
use Rattle.bl_due.proofs.misfit.word_length.Given as goal

-- the bytes before the end are all of a word
abbrev pub invariant-loop-end : goal.invariant-loop-end
invariant-loop-end l = (l.end + run_len class.Word (drop l.end l.bytes) ≡ run_len class.Word l.bytes) × (l.end ≤ length l.bytes)

abbrev pub decreases-loop-end : goal.decreases-loop-end
decreases-loop-end l = length l.bytes - l.end
