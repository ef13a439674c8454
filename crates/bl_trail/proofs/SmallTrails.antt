-- The numbers of the states that trails lead to are small.
use Rattle.std.proofs.Common.{◌≡◌, ◌≤◌, List, [], ◌∷◌, length, refl, arith, length-append, length-set}
use Rattle.bl_order.specs.Headline.{IsReached}
use Rattle.bl_order.specs.Machine.{State, Event, Opens, Admits, Starts, Ends, Loses, Needs, IsTrail, change, session_at}
use Rattle.bl_trail.specs.OneEvent.{IsSmall, AreSmall}

-- a session more, or the same sessions with another last ordinal
sessions-stay : (x : State) (e : Event) → Needs x e → length x.sessions ≤ 1000 → length (change x e).sessions ≤ 1000
sessions-stay x (Opens s) needs few = omega (arith, needs.1, length-append x.sessions (record { subject = s; last = 0 } ∷ []))
sessions-stay x (Admits i k w) needs few = omega (arith, few, length-set x.sessions i (record (session_at x i) { last = k }))
sessions-stay x (Starts n) needs few = few
sessions-stay x (Ends n) needs few = few
sessions-stay x (Loses n) needs few = few

limit-stays : (x : State) (e : Event) → (change x e).limit ≡ x.limit
limit-stays x (Opens s) = refl
limit-stays x (Admits i k w) = refl
limit-stays x (Starts n) = refl
limit-stays x (Ends n) = refl
limit-stays x (Loses n) = refl

module _ (next : (x : State) (e : Event) → IsReached x → Needs x e → IsReached (change x e))
    (room : (x : State) → IsReached x → length x.order ≤ x.limit)
    (as_many : (x : State) → IsReached x → length x.phases ≡ length x.order) where
  small-state : (x : State) → IsReached x → length x.sessions ≤ 1000 → x.limit ≤ 100000 → IsSmall x
  small-state x reached few limit = record {
    sessions = omega (arith, few);
    phases = omega (arith, as_many x reached, room x reached, limit);
    order = omega (arith, room x reached, limit);
  }

  pub small-trail : (x : State) (es : List Event) → IsReached x → length x.sessions ≤ 1000 → x.limit ≤ 100000 → IsTrail x es → AreSmall x es
  small-trail x [] reached few limit steps = small-state x reached few limit
  small-trail x (e ∷ es) reached few limit steps = (
    small-state x reached few limit,
    small-trail (change x e) es (next x e reached steps.0) (sessions-stay x e steps.0 few) (omega (arith, limit, limit-stays x e)) steps.1,
  )
