use Rattle.std.proofs.Common.{◌≡◌, ◌+◌, ◌-◌, ◌*◌, ◌^◌, ◌≤◌, [], ◌∷◌, drop}
use Rattle.bl_work.specs.Body.{statements_of}
use Rattle.bl_work.specs.SpelledDepth.{spelled_depth}
use Rattle.bl_write.specs.Unread.{unread_body, unread_at}
use Rattle.bl_sizes.specs.Counts.{in_word}
use Rattle.bl_sizes.specs.Sizes.{coming_in, most_of}
use Rattle.bl_sizes.proofs.Walking.{no_names}
use Rattle.bl_sizes.proofs.most.+most.Given as goal

-- how many bodies stand in one another, where a behaviour is more than its body, and a body more than one of its statements
abbrev pub decreases-coming_in : goal.decreases-coming_in
decreases-coming_in l = 4 * spelled_depth (unread_at no_names l.script.now l.index).body + 4

abbrev pub decreases-most_of : goal.decreases-most_of
decreases-most_of l = 4 * spelled_depth (unread_body no_names (unread_at no_names l.script.now) (statements_of l.statements.now)) + 3

abbrev pub decreases-most_of_one : goal.decreases-most_of_one
decreases-most_of_one l = 4 * spelled_depth (unread_body no_names (unread_at no_names l.script.now) (statements_of (l.statement.now ∷ []))) + 2

-- the sum so far and what is left are all
abbrev pub invariant-most_of-loop-statement : goal.invariant-most_of-loop-statement
invariant-most_of-loop-statement l =
    (in_word (l.most + most_of (coming_in l.script) (statements_of (drop l.statement-index l.statements)))
    ≡ in_word (most_of (coming_in l.script) (statements_of l.statements)))
    × (l.most ≤ 2 ^ 64 - 1)
