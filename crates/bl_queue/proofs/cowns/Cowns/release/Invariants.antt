use Rattle.std.proofs.Common.{◌-◌}
use Rattle.bl_queue.specs.Holders.{cown_at, place_of, nowhere}
use Rattle.bl_queue.proofs.Release.{IsReleasing}
use Rattle.bl_queue.proofs.cowns.Cowns.release.Given as goal

abbrev pub invariant-loop-first : goal.invariant-loop-first
invariant-loop-first l = IsReleasing l.fn.self l.place l.cown l.self

abbrev pub decreases-loop-first : goal.decreases-loop-first
decreases-loop-first l = nowhere - place_of (cown_at l.self.cowns l.cown).first
