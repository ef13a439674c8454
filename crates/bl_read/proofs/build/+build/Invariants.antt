use Rattle.std.proofs.Common.{◌+◌, ◌*◌, [], ◌∷◌, drop}
use Rattle.bl_syntax.specs.RawBodies.{raw_body}
use Rattle.bl_work.specs.SpelledDepth.{spelled_depth}
use Rattle.bl_walk.specs.Spawned.{with_outermost}
use Rattle.bl_read.proofs.RawLists.{IsPartBuilt}
use Rattle.bl_read.proofs.build.+build.Given as goal

-- How many bodies stand in one another, where a `when` is more than its body, that more than the list of its statements, that more
-- than one of them, and that more than the bodies in it.
abbrev pub decreases-push_when : goal.decreases-push_when
decreases-push_when l = 4 * spelled_depth l.body.now + 3

abbrev pub decreases-body_of : goal.decreases-body_of
decreases-body_of l = 4 * spelled_depth l.body.now + 2

abbrev pub decreases-long_body_of : goal.decreases-long_body_of
decreases-long_body_of l = 4 * spelled_depth (raw_body l.raws.now) + 1

abbrev pub decreases-statement_of : goal.decreases-statement_of
decreases-statement_of l = 4 * spelled_depth (raw_body (l.raw.now ∷ []))

-- the statements so far are built
abbrev pub invariant-long_body_of-loop-raw : goal.invariant-long_body_of-loop-raw
invariant-long_body_of-loop-raw l =
    IsPartBuilt l.lookup.names.now l.raws (with_outermost l.initial.spawned.items) (drop l.raw-index l.raws) l.statements.items (with_outermost l.spawned.items)
