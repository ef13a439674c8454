use Rattle.std.proofs.Common.{◌≡◌, ◌<◌, ◌≤◌, ◌+◌, ◌++◌, ◌∷◌, [], ℕ, List, length, length-append, sym, subst, ap, ◌∙◌, get_or, arith, refl, set}
use Rattle.std.specs.Vec.{vec_len, with_item}
use Rattle.bl_level.specs.Level.{SecurityLevel}
use Rattle.bl_policy.specs.Policy.{lowest}
use Rattle.bl_work.specs.declared.work.Work.{Work}
use Rattle.bl_order.specs.Machine.{State, Admits, Needs, change, session_at}
use Rattle.bl_order.specs.Headline.{IsReached}
use Rattle.bl_order.specs.Order.{Entry, Line}
use Rattle.bl_order.proofs.Reached.{reached-next}
use Rattle.bl_place.specs.Queueing.{MayEnter, QueuesTell}
use Rattle.bl_core.specs.Keeps.{Keeps}
use Rattle.bl_core.specs.View.{state_of}
use Rattle.bl_place.specs.declared.place.Descent.TheVariants as descents
use Rattle.bl_place.specs.declared.place.Place.{Place}
use Rattle.bl_place.specs.declared.place.Stand.TheVariants as stands
use Rattle.bl_core.specs.declared.session.Session.{Session}
use Rattle.bl_core.specs.declared.machine.Core.TheInside.{Inside}
use Rattle.bl_core.proofs.Admitting.{Admitted, kept-admitted, state-admitted, session-read, length-sessions, new_place, tells_before, enters_last}
use Rattle.bl_core.proofs.Queueing.{tell-as}
use Rattle.bl_core.proofs.Views.{length-order}
use Rattle.bl_core.proofs.machine.Core.admit.Goals as goal
use Rattle.bl_core.proofs.machine.Core.admit.Goals.{After-as_slice, After-enter_queues}

-- the fields at the end
abbrev after : After-enter_queues → Inside
after c = record c.self.inside {
  weight = c.self.inside.weight + c.weight-more.result;
  sessions = with_item c.self.inside.sessions c.number.result (record { subject = c.index_mut-row.result.now.subject; last = c.args.ordinal });
  places = c.push_reserved.new.self;
  queues = c.enter_queues.new.queues;
}

needs : (c : After-enter_queues) → Needs (state_of c.self.inside) (Admits c.args.session c.args.ordinal c.args.work)
needs c = subst (λ (x : State). Needs x (Admits c.args.session c.args.ordinal c.args.work)) (sym c.self.view_is) c.requires

there : (c : After-enter_queues) → c.args.session < length c.self.inside.sessions.items
there c = omega (arith, (needs c).0, length-sessions c.self.inside)

row : (c : After-enter_queues) → c.index_mut-row.result.now ≡ get_or c.self.inside.sessions.items c.args.session c.index_mut-row.result.now
row c = c.index_mut-row.ensures.value ∙ ap (λ (j : ℕ). get_or c.self.inside.sessions.items j c.index_mut-row.result.now) c.number.ensures

-- the place that was pushed
pushed : (old new : List Place) (root n session ordinal subject : ℕ) (work : Work) (carried : SecurityLevel) → root ≡ n → carried ≡ lowest
    → new ≡ old ++ record { descent = descents.Line session ordinal work; root = root; index = 0; subject = subject; carried = carried; stand = stands.Waiting } ∷ []
    → new ≡ old ++ new_place n session ordinal subject work ∷ []
pushed old new root n session ordinal subject work carried same nothing is =
    is ∙ (λ j. old ++ record { descent = descents.Line session ordinal work; root = same j; index = 0; subject = subject; carried = nothing j; stand = stands.Waiting } ∷ [])

admitted : (c : After-enter_queues) → Admitted c.self.inside (after c) c.args.session c.args.ordinal c.index_mut-row.result.now.subject c.args.work
admitted c = record {
  setup = refl;
  limit = refl;
  weight = ap (λ (w : ℕ). c.self.inside.weight + w) c.weight-more.ensures.number;
  sessions = ap (λ (j : ℕ). set c.self.inside.sessions.items j (record { subject = c.index_mut-row.result.now.subject; last = c.args.ordinal })) c.number.ensures;
  rooms = refl;
  places = pushed c.self.inside.places.items c.push_reserved.new.self.items c.len-n.result (length c.self.inside.places.items) c.args.session c.args.ordinal
      c.index_mut-row.result.now.subject c.args.work c.lowest_level.result (c.len-n.ensures ∙ c.self.inside.places.ok.0) c.lowest_level.ensures c.push_reserved.ensures.items;
  capacity = c.push_reserved.ensures.capacity;
  queued = tell-as (length c.self.inside.setup.policy.documents + 1) c.self.inside.limit c.push_reserved.new.self.items (length c.push_reserved.new.self.items)
      c.self.inside.queues c.enter_queues.new.queues c.self.invariant.queued.cowns_are c.self.invariant.queued.limit_is
      (subst (λ (l : List Place). QueuesTell c.self.inside.queues.cowns c.self.inside.queues.limit l (length l) c.enter_queues.new.queues) c.as_slice.ensures.value c.enter_queues.ensures);
  policy = refl;
  shelves = refl;
}

-- the same, as the queues are told of the new place
asked : (c : After-as_slice) → Needs (state_of c.self.inside) (Admits c.args.session c.args.ordinal c.args.work)
asked c = subst (λ (x : State). Needs x (Admits c.args.session c.args.ordinal c.args.work)) (sym c.self.view_is) c.requires

open_there : (c : After-as_slice) → c.args.session < length c.self.inside.sessions.items
open_there c = omega (arith, (asked c).0, length-sessions c.self.inside)

kept_row : (c : After-as_slice) → c.index_mut-row.result.now ≡ get_or c.self.inside.sessions.items c.args.session c.index_mut-row.result.now
kept_row c = c.index_mut-row.ensures.value ∙ ap (λ (j : ℕ). get_or c.self.inside.sessions.items j c.index_mut-row.result.now) c.number.ensures

count : (c : After-as_slice) → c.len-n.result ≡ length c.self.inside.places.items
count c = c.len-n.ensures ∙ c.self.inside.places.ok.0

listed : (c : After-as_slice) → c.as_slice.result.now
    ≡ c.self.inside.places.items ++ new_place (length c.self.inside.places.items) c.args.session c.args.ordinal c.index_mut-row.result.now.subject c.args.work ∷ []
listed c =
    c.as_slice.ensures.value
    ∙ pushed c.self.inside.places.items c.push_reserved.new.self.items c.len-n.result (length c.self.inside.places.items) c.args.session c.args.ordinal
    c.index_mut-row.result.now.subject c.args.work c.lowest_level.result (count c) c.lowest_level.ensures c.push_reserved.ensures.items

longer : (c : After-as_slice) → length c.as_slice.result.now ≡ length c.self.inside.places.items + 1
longer c =
    ap length (listed c)
    ∙ length-append c.self.inside.places.items (new_place (length c.self.inside.places.items) c.args.session c.args.ordinal c.index_mut-row.result.now.subject c.args.work ∷ [])

-- the order has room for the new place
room_for : (i : Inside) → Keeps i → (session ordinal : ℕ) (work : Work) → Needs (state_of i) (Admits session ordinal work) → ((x : State) → IsReached x → length x.order ≤ x.limit)
    → length i.places.items + 1 ≤ i.limit
room_for i k session ordinal work asks room =
    omega (
      arith,
      length-order i,
      length-append (state_of i).order (new_entry ∷ []),
      room (change (state_of i) (Admits session ordinal work)) (reached-next (state_of i) (Admits session ordinal work) k.reached asks),
    )
  where
    new_entry : Entry
    new_entry = Line session ordinal (session_at (state_of i) session).subject work

within : (c : After-as_slice) → length c.self.inside.places.items + 1 ≤ c.self.inside.limit
within c = room_for c.self.inside c.self.invariant c.args.session c.args.ordinal c.args.work (asked c) c.the_order_has_room.ensures.order

pub index_mut-row-requires : goal.index_mut-row-requires
index_mut-row-requires c =
    subst (λ (m : ℕ). m < vec_len c.self.inside.sessions) (sym c.number.ensures)
    (subst (λ (m : ℕ). c.args.session < m) (length-sessions c.self.inside ∙ sym c.self.inside.sessions.ok.0)
    (subst (λ (x : State). c.args.session < length x.sessions) (sym c.self.view_is) c.requires.0))

pub push_reserved-requires : goal.push_reserved-requires
push_reserved-requires c =
    let room = room_for c.self.inside c.self.invariant c.args.session c.args.ordinal c.args.work
    (subst (λ (x : State). Needs x (Admits c.args.session c.args.ordinal c.args.work)) (sym c.self.view_is) c.requires) c.the_order_has_room.ensures.order in
    omega (arith, room, c.self.invariant.reserved, c.self.inside.places.ok.0)

pub enter_queues-requires-clause-before : goal.enter_queues-requires-clause-before
enter_queues-requires-clause-before c =
    subst (λ (m : ℕ). QueuesTell c.self.inside.queues.cowns c.self.inside.queues.limit c.as_slice.result.now m c.self.inside.queues) (sym (count c))
    (subst (λ (l : List Place). QueuesTell c.self.inside.queues.cowns c.self.inside.queues.limit l (length c.self.inside.places.items) c.self.inside.queues) (sym (listed c))
    (tells_before c.self.inside c.args.session c.args.ordinal c.index_mut-row.result.now.subject c.args.work
    (session-read c.self.inside c.args.session c.index_mut-row.result.now (open_there c) (kept_row c)) c.self.invariant (asked c)
    (subst (λ (r : Session). r.subject < length c.self.inside.setup.policy.subjects) (sym (kept_row c)) (c.self.invariant.speakers c.args.session c.index_mut-row.result.now (open_there c)))
    (c.read_lines_are_in_the_setup.ensures.work c.self.inside.setup (asked c).1.0 c.args.work c.self.invariant.agree (asked c).1.1) c.weight-more.ensures.first))

pub enter_queues-requires-clause-from : goal.enter_queues-requires-clause-from
enter_queues-requires-clause-from c = omega (arith, count c, longer c)

pub enter_queues-requires-clause-room : goal.enter_queues-requires-clause-room
enter_queues-requires-clause-room c = omega (arith, longer c, within c, c.self.invariant.queued.limit_is)

pub enter_queues-requires-clause-few : goal.enter_queues-requires-clause-few
enter_queues-requires-clause-few c = omega (arith, longer c, within c)

pub enter_queues-requires-clause-may : goal.enter_queues-requires-clause-may
enter_queues-requires-clause-may c m ge lt =
    subst (λ (l : List Place). MayEnter c.self.inside.queues.cowns l m) (sym (listed c))
    (enters_last c.self.inside c.args.session c.args.ordinal c.index_mut-row.result.now.subject c.args.work
    (session-read c.self.inside c.args.session c.index_mut-row.result.now (open_there c) (kept_row c)) c.self.invariant (asked c)
    (subst (λ (r : Session). r.subject < length c.self.inside.setup.policy.subjects) (sym (kept_row c)) (c.self.invariant.speakers c.args.session c.index_mut-row.result.now (open_there c)))
    (c.read_lines_are_in_the_setup.ensures.work c.self.inside.setup (asked c).1.0 c.args.work c.self.invariant.agree (asked c).1.1) c.weight-more.ensures.first
    c.tasks_are_of_scripts.ensures m (omega (arith, ge, count c)) (subst (λ (l : List Place). m < length l) (listed c) lt))

pub invariant_of-self : goal.invariant_of-self
invariant_of-self c =
    kept-admitted c.self.inside (after c) c.args.session c.args.ordinal c.index_mut-row.result.now.subject c.args.work (admitted c)
    (session-read c.self.inside c.args.session c.index_mut-row.result.now (there c) (row c)) c.self.invariant (needs c)
    (subst (λ (r : Session). r.subject < length c.self.inside.setup.policy.subjects) (sym (row c))
    (c.self.invariant.speakers c.args.session c.index_mut-row.result.now (there c)))
    (c.read_lines_are_in_the_setup.ensures.work c.self.inside.setup (needs c).1.0 c.args.work c.self.invariant.agree (needs c).1.1)
    c.weight-more.ensures.first

pub returns-clause-change : goal.returns-clause-change
returns-clause-change c =
    state-admitted c.self.inside (after c) c.args.session c.args.ordinal c.index_mut-row.result.now.subject c.args.work (admitted c)
    (session-read c.self.inside c.args.session c.index_mut-row.result.now (there c) (row c))
    ∙ ap (λ (x : State). change x (Admits c.args.session c.args.ordinal c.args.work)) c.self.view_is

pub returns-clause-place : goal.returns-clause-place
returns-clause-place c = c.len-n.ensures ∙ c.self.inside.places.ok.0 ∙ sym (length-order c.self.inside) ∙ ap (λ (x : State). length x.order) c.self.view_is
