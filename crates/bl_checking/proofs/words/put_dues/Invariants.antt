use Rattle.std.proofs.Common.{◌≡◌, length}
use Rattle.bl_checking.specs.Telling.{put_dues}
use Rattle.bl_checking.proofs.words.put_dues.Given as goal

-- the words of the rest are still to be put
abbrev pub invariant-loop-rest : goal.invariant-loop-rest
invariant-loop-rest l = put_dues l.text.items l.rest ≡ put_dues l.fn.text.items l.dues

abbrev pub decreases-loop-rest : goal.decreases-loop-rest
decreases-loop-rest l = length l.rest
