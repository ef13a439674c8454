use Rattle.bl_worker.proofs.worker.run_worker.Given as goal
use Rattle.bl_gate.specs.Gates.{Follows}
use Rattle.bl_worker.specs.Turns.{AddsTurnsAlone}
use Rattle.bl_worker.specs.Hands.{HasInHand, Holds, SettlesBut}

-- the pass follows what it was at first, what it started since then has ended or is in hand, it has added turns alone, and it has what is in hand
abbrev pub invariant-loop : goal.invariant-loop
invariant-loop g l =
    (goal.iterator-loop g).can_next l.iterator' × (goal.iterator-loop g).is_finite l.iterator' × Follows l.initial.pass l.pass × SettlesBut (Holds l.hand) l.initial.pass l.pass
    × AddsTurnsAlone l.initial.pass l.pass × HasInHand l.pass l.hand
