-- What a hall keeps after an event.
use Rattle.std.proofs.Common.{◌≡◌, suc, ◌+◌, ◌*◌, ◌<◌, ◌≤◌, [], ◌∷◌, ◌++◌, length, sym, ap, subst, ◌∙◌, arith, inr, length-append, length-set}
use Rattle.std.specs.Vec.{vec_capacity}
use Rattle.bl_order.specs.Headline.{IsReached}
use Rattle.bl_order.specs.Machine.{State, Event, Session, Opens, Admits, Starts, Ends, Loses, Needs, change, most_sessions, session_at}
use Rattle.bl_hall.specs.declared.hall.Hall.TheInside.{Inside}
use Rattle.bl_hall.specs.Awaited.{most_events}
use Rattle.bl_hall.specs.Chronicle.{Chronicle, Continues, HasTrail, kept_of, state_now, with_event}
use Rattle.bl_hall.specs.Keeps.{AreLinks, AreTallies, Keeps}
use Rattle.bl_hall.specs.Recalled.{chronicle_of, lines_in, works_of}
use Rattle.bl_hall.proofs.Happening.{happened-next, most-happened}
use Rattle.bl_hall.proofs.Recalling.{chronicle-next, lines-more, new_works, same-limit, works-change}
use Rattle.bl_hall.proofs.Trails.{reached-now, state-next, trail-next}

-- one event more, in the fields
pub record Next (h d : Inside) (e : Event) : Type 0 where
  pub core : d.core ≡ change h.core e
  pub events : d.events.items ≡ h.events.items ++ kept_of e ∷ []
  pub events_room : vec_capacity d.events ≡ vec_capacity h.events
  pub links_room : vec_capacity d.links ≡ vec_capacity h.links
  pub tallies_room : vec_capacity d.tallies ≡ vec_capacity h.tallies

pub reached : (h : Inside) → Keeps h → IsReached h.core
reached h k = subst IsReached (sym k.leads) (reached-now (chronicle_of h) k.trail)

sessions-next : (x : State) (e : Event) → Needs x e → length x.sessions ≤ most_sessions → length (change x e).sessions ≤ most_sessions
sessions-next x (Opens u) needs le = omega (arith, needs.1, length-append x.sessions (born ∷ []))
  where
    born : Session
    born = record { subject = u; last = 0 }
sessions-next x (Admits s o w) needs le = omega (arith, le, length-set x.sessions s (record (session_at x s) { last = o }))
sessions-next x (Starts n) needs le = le
sessions-next x (Ends n) needs le = le
sessions-next x (Loses n) needs le = le

-- the state that follows is reached too
pub reached-next : (h : Inside) → Keeps h → (e : Event) → Needs h.core e → IsReached (change h.core e)
reached-next h k e needs =
    let x : State = state_now (chronicle_of h) in
    subst (λ y. IsReached (change y e)) (sym k.leads)
    (subst IsReached (state-next (chronicle_of h) e) (reached-now (with_event (chronicle_of h) e) (trail-next (chronicle_of h) e k.trail (subst (λ y. Needs y e) k.leads needs))))

-- there is room for one event more
pub event-room : (h : Inside) → Keeps h → (e : Event) → Needs h.core e → ((x : State) → IsReached x → length x.order ≤ x.limit) → length h.events.items < vec_capacity h.events
event-room h k e needs within =
    let r : IsReached (change h.core e) = reached-next h k e needs in
    let few : length (change h.core e).order ≤ h.core.limit = subst (λ l. length (change h.core e).order ≤ l) (same-limit h.core e) (within (change h.core e) r) in
    let grows : suc (most_events h.core) ≤ most_events (change h.core e) = happened-next h.core e (reached h k) needs in
    let most : most_events (change h.core e) ≤ most_sessions + 3 * h.core.limit = most-happened (change h.core e) h.core.limit r few (sessions-next h.core e needs k.opened) in
    let now : length h.events.items ≤ most_events h.core = k.happened in
    let room : most_sessions + 3 * h.core.limit ≤ vec_capacity h.events = k.events_room in
    omega (arith, grows, most, now, room)

pub kept-next : (h d : Inside) (e : Event) → Keeps h → Needs h.core e → Next h d e → AreLinks (change h.core e).order d.links.items → AreTallies (change h.core e) d.links.items d.tallies.items → Keeps d
kept-next h d e k needs next links tallies = record {
  trail = subst HasTrail (sym is) (trail-next (chronicle_of h) e k.trail (subst (λ y. Needs y e) k.leads needs));
  leads = next.core ∙ ap (λ y. change y e) k.leads ∙ sym (state-next (chronicle_of h) e) ∙ ap state_now (sym is);
  lines =
      ap lines_in next.events ∙ lines-more h.events.items e ∙ ap (λ n. n + length (new_works e)) k.lines
      ∙ sym (length-append (works_of h.core.order) (new_works e)) ∙ ap length (sym (works-change h.core e)) ∙ ap (λ (x : State). length (works_of x.order)) (sym next.core);
  links = subst (λ (x : State). AreLinks x.order d.links.items) (sym next.core) links;
  tallies = subst (λ (x : State). AreTallies x d.links.items d.tallies.items) (sym next.core) tallies;
  some = let same : d.core.limit ≡ h.core.limit = ap (λ (x : State). x.limit) next.core ∙ same-limit h.core e in omega (arith, same, k.some);
  limited = let same : d.core.limit ≡ h.core.limit = ap (λ (x : State). x.limit) next.core ∙ same-limit h.core e in omega (arith, same, k.limited);
  opened = subst (λ (x : State). length x.sessions ≤ most_sessions) (sym next.core) (sessions-next h.core e needs k.opened);
  happened =
      subst (λ (x : State). length d.events.items ≤ most_events x) (sym next.core)
      (omega (arith, ap length next.events, length-append h.events.items (kept_of e ∷ []), happened-next h.core e (reached h k) needs, k.happened));
  events_room =
      let same : d.core.limit ≡ h.core.limit = ap (λ (x : State). x.limit) next.core ∙ same-limit h.core e in
      let room : most_sessions + 3 * h.core.limit ≤ vec_capacity h.events = k.events_room in
      omega (arith, same, room, next.events_room);
  links_room =
      let same : d.core.limit ≡ h.core.limit = ap (λ (x : State). x.limit) next.core ∙ same-limit h.core e in
      let room : h.core.limit ≤ vec_capacity h.links = k.links_room in
      omega (arith, same, room, next.links_room);
  tallies_room = let room : most_sessions ≤ vec_capacity h.tallies = k.tallies_room in omega (arith, room, next.tallies_room);
}
  where
    is : chronicle_of d ≡ with_event (chronicle_of h) e
    is = chronicle-next h d e k.lines next.core next.events

-- what a hall is, and that it goes on
pub view-next : (h d : Inside) (e : Event) → Keeps h → Next h d e → (v : Chronicle) → chronicle_of h ≡ v → chronicle_of d ≡ with_event v e
view-next h d e k next v is = chronicle-next h d e k.lines next.core next.events ∙ ap (λ w. with_event w e) is

pub continues : (h d : Inside) (e : Event) → Keeps h → Needs h.core e → Next h d e → (v : Chronicle) → chronicle_of h ≡ v → Continues v (chronicle_of d)
continues h d e k needs next v is = record {
  by_one_at_most = inr (e, view-next h d e k next v is);
  trail =
      subst HasTrail (sym (chronicle-next h d e k.lines next.core next.events))
      (trail-next (chronicle_of h) e k.trail (subst (λ y. Needs y e) k.leads needs));
}

-- the core is where the events lead
pub core-is : (h : Inside) → Keeps h → (v : Chronicle) → chronicle_of h ≡ v → h.core ≡ state_now v
core-is h k v is = k.leads ∙ ap state_now is
