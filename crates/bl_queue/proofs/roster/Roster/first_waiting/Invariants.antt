use Rattle.std.proofs.Common.{◌≡◌, ℕ, ◌<◌, ◌≤◌, false}
use Rattle.bl_queue.specs.Queued.{waits_at}
use Rattle.bl_queue.proofs.roster.Roster.first_waiting.Given as goal

abbrev pub invariant-loop-i : goal.invariant-loop-i
invariant-loop-i l = (k : ℕ) → l.self.front ≤ k → k < l.i → waits_at l.self.entries l.self.holders.free k ≡ false
