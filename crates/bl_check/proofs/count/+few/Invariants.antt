use Rattle.std.proofs.Common.{◌≡◌, ◌+◌, ◌*◌, [], ◌∷◌, take}
use Rattle.bl_syntax.specs.RawBodies.{raw_body}
use Rattle.bl_work.specs.SpelledDepth.{spelled_depth}
use Rattle.bl_work.specs.Meaning.{whens}
use Rattle.bl_work.specs.FirstWhenFault.{AreFewIn}
use Rattle.bl_check.proofs.count.+few.Given as goal

-- how many bodies stand in one another, where a body is more than one of its statements, and that more than the bodies in it
abbrev pub decreases-whens_left : goal.decreases-whens_left
decreases-whens_left l = 2 * spelled_depth l.body.now + 1

abbrev pub decreases-whens_left_behind : goal.decreases-whens_left_behind
decreases-whens_left_behind l = 2 * spelled_depth (raw_body (l.statement.now ∷ []))

-- the statements so far have few
abbrev pub invariant-whens_left-loop-statement : goal.invariant-whens_left-loop-statement
invariant-whens_left-loop-statement l = AreFewIn l.most (raw_body (take l.statement-index l.statement-items)) × (whens (raw_body (take l.statement-index l.statement-items)) + l.left ≡ l.most)
