use Rattle.std.proofs.Common.{◌≡◌, take}
use Rattle.bl_walk.proofs.unread.past_word.Given as goal

-- the bytes so far are the word's
abbrev pub invariant-loop-i : goal.invariant-loop-i
invariant-loop-i l = take l.i l.front ≡ take l.i l.word
