-- What a hall is: what it began with, and all that has happened in it.
use Rattle.std.specs.Prelude.{◌≡◌, ℕ, List, [], ◌∷◌, ◌++◌, ◌⊎◌}
use Rattle.bl_setup.specs.Setup.{Setup}
use Rattle.bl_order.specs.Machine.{State, Event, Opens, Admits, Starts, Ends, Loses, IsTrail, start, state_after}
use Rattle.bl_hall.specs.declared.event.Event as kept
use Rattle.bl_hall.specs.declared.event.Event.TheVariants as kept_as

-- the setup and the limit that a hall began with, and its events in order, each line's with its work
pub record Chronicle : Type 0 where
  pub setup : Setup
  pub limit : ℕ
  pub trail : List Event

-- the state that the events lead to
abbrev pub state_now : Chronicle → State
state_now h = state_after (start h.setup h.limit) h.trail

-- the events are a trail
abbrev pub HasTrail : Chronicle → Type 0
HasTrail h = IsTrail (start h.setup h.limit) h.trail

-- with one event more
abbrev pub with_event : Chronicle → Event → Chronicle
with_event h event = record { setup = h.setup; limit = h.limit; trail = h.trail ++ event ∷ [] }

-- What every call does: it changes nothing or adds one event, and the events are a trail.
pub record Continues (before after : Chronicle) : Type 0 where
  pub by_one_at_most : (after ≡ before) ⊎ ((event : Event) × (after ≡ with_event before event))
  pub trail : HasTrail after

-- an event as it is kept, without the work of a line
abbrev pub kept_of : Event → kept.Event
kept_of (Opens subject) = kept_as.Open subject
kept_of (Admits session ordinal work) = kept_as.Line session ordinal
kept_of (Starts n) = kept_as.Start n
kept_of (Ends n) = kept_as.End n
kept_of (Loses n) = kept_as.Lost n
