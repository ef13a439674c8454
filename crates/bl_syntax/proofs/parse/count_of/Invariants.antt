use Rattle.std.proofs.Common.{◌≡◌, ◌+◌, length}
use Rattle.bl_syntax.specs.Tokens.{tokens_of}
use Rattle.bl_syntax.proofs.parse.count_of.Given as goal

-- what was counted are the tokens before the rest
abbrev pub invariant-loop-more : goal.invariant-loop-more
invariant-loop-more l = l.count + length (tokens_of l.rest) ≡ length (tokens_of l.bytes)

abbrev pub decreases-loop-more : goal.decreases-loop-more
decreases-loop-more l = length l.rest
