-- A pass follows what it was, through call after call.
use Rattle.std.proofs.Common.{◌≡◌, ℕ, List, [], ◌∷◌, ◌++◌, length, refl, ap, ◌∙◌, subst}
use Rattle.bl_order.specs.Machine.{State, Event}
use Rattle.bl_hall.specs.Chronicle.{Chronicle, state_now}
use Rattle.bl_gate.specs.Gates.{GateId, PassView, Calls, Follows, hall_with}
use Rattle.bl_gate.proofs.Trails.{begins_itself, begins_more}

pub follows_itself : (p : PassView) → Follows p p
follows_itself p = record { gate = refl; parts = refl; seen = begins_itself p.seen }

pub follows_then : (p q r : PassView) → Follows p q → Follows q r → Follows p r
follows_then p q r f g = record { gate = g.gate ∙ f.gate; parts = g.parts ∙ f.parts; seen = begins_more r.seen q.seen p.seen g.seen f.seen }

-- it stays at the hall that its gate was given
pub base_stays : (p q : PassView) → Follows p q → q.gate.base ≡ p.gate.base
base_stays p q f = ap (λ (g : GateId). g.base) f.gate

-- an event of a turn is one of the pass that began it
pub calls_from : (p q r : PassView) (event : Event) (Answered : State → Type 0) → Follows p q → q.own ≡ p.own → Calls q event Answered r → Calls p event Answered r
calls_from p q r event Answered follows own call = record {
  trail = call.trail;
  from = begins_more call.trail q.seen p.seen call.from follows.seen;
  seen = call.seen;
  own = call.own ∙ ap (λ (l : List ℕ). l ++ length call.trail ∷ []) own;
  answered = subst (λ (b : Chronicle). Answered (state_now (hall_with b call.trail))) (base_stays p q follows) call.answered;
}
