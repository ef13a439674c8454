use Rattle.std.proofs.Common.{◌+◌, ◌-◌, ◌*◌, length}
use Rattle.bl_work.specs.Few.{items_of}
use Rattle.bl_work.specs.Script.{most_depth}
use Rattle.bl_walk.specs.Spawned.{with_outermost}
use Rattle.bl_walk.specs.Walked.{Walked}
use Rattle.bl_walk.proofs.plain.Walk.+walk.Given as goal

-- How many steps may still be gone down, where a `when` is more than its body, that more than a statement, and that more than the
-- bodies in it.
abbrev pub decreases-when : goal.decreases-when
decreases-when l = 4 * (most_depth - l.depth) + 3

abbrev pub decreases-body : goal.decreases-body
decreases-body l = 4 * (most_depth - l.depth) + 2

abbrev pub decreases-statement : goal.decreases-statement
decreases-statement l = 4 * (most_depth - l.depth) + 1

abbrev pub decreases-choice : goal.decreases-choice
decreases-choice l = 4 * (most_depth - l.depth)

abbrev pub decreases-spawn : goal.decreases-spawn
decreases-spawn l = 4 * (most_depth - l.depth)

-- the statements so far were walked
abbrev pub invariant-body-loop-start : goal.invariant-body-loop-start
invariant-body-loop-start l =
    Walked l.declared.names.now l.declared.accesses l.depth l.fn.self.unread.bytes.now l.self.unread.bytes.now (with_outermost l.fn.self.spawned.items)
    (with_outermost l.self.spawned.items) (items_of l.statements)

abbrev pub decreases-body-loop-start : goal.decreases-body-loop-start
decreases-body-loop-start l = length l.self.unread.bytes.now
