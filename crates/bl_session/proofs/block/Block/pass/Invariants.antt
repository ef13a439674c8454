use Rattle.std.proofs.Common.{◌≡◌, ◌≤◌, ◌-◌, length}
use Rattle.bl_hall.specs.Chronicle.{state_now}
use Rattle.bl_session.specs.Blocks.{behind, left_in}
use Rattle.bl_session.proofs.block.Block.pass.Given as goal

abbrev pub invariant-places : goal.invariant-places
invariant-places l =
    (l.self.places.items ≡ l.fn.self.places.items) × (l.self.next ≤ length l.self.places.items)
    × (behind l.most (left_in (state_now l.hall) l.self) ≡ behind l.most (left_in (state_now l.hall) l.fn.self))

abbrev pub decreases-places : goal.decreases-places
decreases-places l = length l.self.places.items - l.self.next
