use Rattle.std.proofs.Common.{◌≡◌, ◌+◌, ℕ, length}
use Rattle.bl_replay.specs.Marks.{mark_in}
use Rattle.bl_replay.proofs.mark.grow.Given as goal

abbrev pub invariant-loop : goal.invariant-loop
invariant-loop l = ((k : ℕ) → mark_in l.marks.items k ≡ mark_in l.initial.marks.items k) × (length l.marks.items ≡ length l.initial.marks.items + l.counter)
