use Rattle.std.proofs.Common.{◌≡◌, length}
use Rattle.bl_level.specs.Lexing.{past_blanks}
use Rattle.bl_walk.proofs.unread.past_blanks.Given as goal

-- what was passed are blanks
abbrev pub invariant-loop-rest : goal.invariant-loop-rest
invariant-loop-rest l = past_blanks l.bytes ≡ past_blanks l.rest

abbrev pub decreases-loop-rest : goal.decreases-loop-rest
decreases-loop-rest l = length l.rest
