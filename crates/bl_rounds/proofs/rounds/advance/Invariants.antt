use Rattle.bl_rounds.specs.Going.{StepsAt}
use Rattle.bl_rounds.proofs.rounds.advance.Given as goal

-- this member alone has gone on
abbrev pub invariant-loop-count : goal.invariant-loop-count
invariant-loop-count g l = StepsAt g.S.Stream.remaining g.S.Stream.contents l.initial.crowd l.crowd l.i
