use Rattle.std.proofs.Common.{◌≡◌}
use Rattle.bl_crowd.specs.Crowds.{IsCrowd}
use Rattle.bl_rounds.specs.Going.{HasRun}
use Rattle.bl_rounds.proofs.rounds.end_and_begin.Given as goal

-- the same connections are there, and what was begun was run
abbrev pub invariant-loop : goal.invariant-loop
invariant-loop g l = record {
  crowd_is : IsCrowd g.S.Stream.remaining g.S.Stream.contents l.crowd;
  same : (l.crowd.members ≡ l.initial.crowd.members) × (l.crowd.first ≡ l.initial.crowd.first) × (l.crowd.gate ≡ l.initial.crowd.gate);
  run : HasRun l.initial.crowd.first.value l.crowd.pass l.hand;
  marks : l.hand.marks ≡ l.initial.hand.marks;
}
