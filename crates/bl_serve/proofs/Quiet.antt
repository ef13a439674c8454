-- Passes that keep quiet.
use Rattle.bl_hall.specs.Chronicle.{HasTrail}
use Rattle.bl_gate.specs.Gates.{PassView, Follows, hall_seen}
use Rattle.bl_gate.proofs.Following.{follows_then}
use Rattle.bl_worker.specs.Turns.{AddsTurnsAlone}
use Rattle.bl_worker.proofs.Adding.{adds_then}
use Rattle.bl_serve.specs.Courses.{KeepsQuiet}

-- one call or one turn
pub quiet_once : (p q : PassView) → Follows p q → AddsTurnsAlone p q → HasTrail (hall_seen q) → KeepsQuiet p q
quiet_once p q follows adds legal = record { follows = follows; adds = adds; trail = λ _. legal }

pub quiet_then : (p q r : PassView) → KeepsQuiet p q → KeepsQuiet q r → KeepsQuiet p r
quiet_then p q r f g = record {
  follows = follows_then p q r f.follows g.follows;
  adds = adds_then _ p q r f.adds g.adds g.follows;
  trail = λ legal. g.trail (f.trail legal);
}
