-- The states that a trail leads to: what each of them keeps, and that each event leads on to another.
use Rattle.std.proofs.Common.{◌≡◌, ℕ, List, [], ◌∷◌, ◌++◌, refl, sym, ◌∙◌, ap, subst}
use Rattle.bl_setup.specs.Setup.{Setup}
use Rattle.bl_order.specs.Machine.{State, Event, Needs, IsTrail, change, start, state_after}
use Rattle.bl_order.specs.Headline.{IsReached}
use Rattle.bl_order.proofs.Sound.{IsSound}
use Rattle.bl_order.proofs.Trails.{sound-trail, sound-start}

-- each such state keeps what each event keeps
pub sound-reached : (x : State) → IsReached x → IsSound x
sound-reached x r = subst IsSound (sym r.leads) (sound-trail (start r.setup r.limit) r.events (sound-start r.setup r.limit) r.trail)

-- a trail and one event more
trail-more : (x : State) (es : List Event) (e : Event) → IsTrail x es → Needs (state_after x es) e → IsTrail x (es ++ e ∷ [])
trail-more x [] e trail needs = (needs, tt)
trail-more x (f ∷ es) e trail needs = (trail.0, trail-more (change x f) es e trail.1 needs)

-- where it leads
after-more : (x : State) (es : List Event) (e : Event) → state_after x (es ++ e ∷ []) ≡ change (state_after x es) e
after-more x [] e = refl
after-more x (f ∷ es) e = after-more (change x f) es e

-- each first part of a trail is one
pub trail-front : (x : State) (front rest : List Event) → IsTrail x (front ++ rest) → IsTrail x front
trail-front x [] rest trail = tt
trail-front x (e ∷ front) rest trail = (trail.0, trail-front (change x e) front rest trail.1)

-- no event leads to the start
pub reached-first : (setup : Setup) (limit : ℕ) → IsReached (start setup limit)
reached-first setup limit = record { setup = setup; limit = limit; events = []; trail = tt; leads = refl }

-- one event leads on
pub reached-next : (x : State) (e : Event) → IsReached x → Needs x e → IsReached (change x e)
reached-next x e r needs = record {
  setup = r.setup;
  limit = r.limit;
  events = r.events ++ e ∷ [];
  trail = trail-more (start r.setup r.limit) r.events e r.trail (subst (λ y. Needs y e) r.leads needs);
  leads = ap (λ y. change y e) r.leads ∙ sym (after-more (start r.setup r.limit) r.events e);
}
