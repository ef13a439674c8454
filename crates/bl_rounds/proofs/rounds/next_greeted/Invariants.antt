use Rattle.bl_rounds.specs.Seats.{AreTold, sessions_of}
use Rattle.bl_rounds.proofs.rounds.next_greeted.Given as goal

-- of the first ones each that is greeted was told of
abbrev pub invariant-loop-i : goal.invariant-loop-i
invariant-loop-i g l = AreTold l.i l.seats (sessions_of l.crowd.members.items)
