use Rattle.std.proofs.Common.{◌≡◌, ◌+◌, ℕ, length}
use Rattle.bl_rebuild.specs.Unfinished.{slot_at}
use Rattle.bl_rebuild.proofs.slots.Slots.grow.Given as goal

abbrev pub invariant-loop : goal.invariant-loop
invariant-loop l =
    ((k : ℕ) → slot_at l.self.slots.items k ≡ slot_at l.initial.self.slots.items k) × (length l.self.slots.items ≡ length l.initial.self.slots.items + l.counter)
