-- A trail and one event more.
use Rattle.std.proofs.Common.{◌≡◌, List, [], ◌∷◌, ◌++◌, refl}
use Rattle.bl_order.specs.Headline.{IsReached}
use Rattle.bl_order.specs.Machine.{State, Event, Needs, IsTrail, change, start, state_after}
use Rattle.bl_hall.specs.Chronicle.{Chronicle, HasTrail, state_now, with_event}

after-more : (x : State) (events : List Event) (e : Event) → state_after x (events ++ e ∷ []) ≡ change (state_after x events) e
after-more x [] e = refl
after-more x (f ∷ events) e = after-more (change x f) events e

trail-more : (x : State) (events : List Event) (e : Event) → IsTrail x events → Needs (state_after x events) e → IsTrail x (events ++ e ∷ [])
trail-more x [] e trail needs = (needs, tt)
trail-more x (f ∷ events) e trail needs = (trail.0, trail-more (change x f) events e trail.1 needs)

pub state-next : (h : Chronicle) (e : Event) → state_now (with_event h e) ≡ change (state_now h) e
state-next h e = after-more (start h.setup h.limit) h.trail e

pub trail-next : (h : Chronicle) (e : Event) → HasTrail h → Needs (state_now h) e → HasTrail (with_event h e)
trail-next h e trail needs = trail-more (start h.setup h.limit) h.trail e trail needs

pub reached-now : (h : Chronicle) → HasTrail h → IsReached (state_now h)
reached-now h trail = record { setup = h.setup; limit = h.limit; events = h.trail; trail = trail; leads = refl }
