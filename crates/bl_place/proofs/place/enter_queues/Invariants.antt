use Rattle.bl_place.specs.Queueing.{QueuesTell}
use Rattle.bl_place.proofs.place.enter_queues.Given as goal

-- so far the places before this one have entered
abbrev pub invariant-loop-n : goal.invariant-loop-n
invariant-loop-n l = QueuesTell l.initial.queues.cowns l.initial.queues.limit l.places l.n l.queues
