use Rattle.std.proofs.Common.{◌≡◌, ◌+◌, ◌++◌, drop, length}
use Rattle.std.specs.Prelude.{map}
use Rattle.bl_replay.specs.Kept.{child_places, queued_as}
use Rattle.bl_replay.proofs.claim.enter_children.Given as goal

abbrev pub invariant-loop-index : goal.invariant-loop-index
invariant-loop-index l =
    (l.places.items ++ child_places l.parent l.work (l.which + 1) (drop l.index-index l.spawned) ≡ l.initial.places.items ++ child_places l.parent l.work 1 l.spawned)
    × (l.queues.entries ++ map queued_as (child_places l.parent l.work (l.which + 1) (drop l.index-index l.spawned)) ≡ l.initial.queues.entries ++ map queued_as (child_places l.parent l.work 1 l.spawned))
    × (l.queues.cowns ≡ l.initial.queues.cowns) × (l.queues.limit ≡ l.initial.queues.limit)
    × (l.which ≡ l.index-index)
    × (length l.queues.entries ≡ length l.places.items) × (length l.places.items ≡ length l.initial.places.items + l.index-index)
