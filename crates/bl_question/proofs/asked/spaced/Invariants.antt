use Rattle.std.proofs.Common.{◌≡◌, take}
use Rattle.bl_question.specs.Asked.{spaced}
use Rattle.bl_question.proofs.asked.spaced.Given as goal

-- the words so far
abbrev pub invariant-loop-word : goal.invariant-loop-word
invariant-loop-word l = l.text.items ≡ spaced (take l.word-index l.words)
