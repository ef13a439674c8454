use Rattle.std.proofs.Common.{◌≡◌, false}
use Rattle.std.specs.Io.KnownBytes.{Keeps}
use Rattle.bl_allowance.specs.Intakes.{EndsWithStream, GivesOrEnds, StaysInOrder, waits_left}
use Rattle.bl_allowance.proofs.intake.Intake.fill.Given as goal

-- all that came is held, in order, and was looked at
abbrev pub invariant-loop-self : goal.invariant-loop-self
invariant-loop-self g l =
    StaysInOrder g.S.Stream.remaining l.initial.self l.self
    × EndsWithStream g.S.Stream.remaining l.initial.self l.self
    × Keeps (g.S.Stream.contents l.initial.self.inner) (g.S.Stream.contents l.self.inner)
    × (l.self.part ≡ false → GivesOrEnds l.self)

abbrev pub decreases-loop-self : goal.decreases-loop-self
decreases-loop-self g l = waits_left l.self
