use Rattle.bl_queue.specs.Holders.{IsEnding}
use Rattle.bl_queue.proofs.cowns.Cowns.release_all.Given as goal

abbrev pub invariant-loop-place : goal.invariant-loop-place
invariant-loop-place l = IsEnding l.fn.self l.first l.place l.self
