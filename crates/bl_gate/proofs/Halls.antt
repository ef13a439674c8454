-- What a hall's trail leads to at each of its moments.
use Rattle.std.proofs.Common.{List, subst}
use Rattle.bl_order.specs.Machine.{Event, IsTrail, start}
use Rattle.bl_order.proofs.Sound.{IsSound}
use Rattle.bl_order.proofs.Reached.{sound-reached}
use Rattle.bl_hall.specs.Chronicle.{Chronicle, HasTrail, state_now}
use Rattle.bl_hall.proofs.Trails.{reached-now}
use Rattle.bl_gate.specs.Counts.{StartsWith}
use Rattle.bl_gate.specs.Gates.{hall_with}
use Rattle.bl_gate.proofs.Passing.{trail_front}

-- a hall's trail up to some point is a trail
pub legal_front : (h : Chronicle) (t s : List Event) → StartsWith t s → HasTrail (hall_with h t) → HasTrail (hall_with h s)
legal_front h t s (rest, e) legal = trail_front (start h.setup h.limit) s rest (subst (IsTrail (start h.setup h.limit)) e legal)

pub sound_at : (h : Chronicle) → HasTrail h → IsSound (state_now h)
sound_at h legal = sound-reached (state_now h) (reached-now h legal)
