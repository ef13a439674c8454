-- What is held, as an iterator gives it: a subject, a document and a mode.
use Rattle.std.specs.Prelude.{◌≡◌, ℕ, zero, suc, ◌-◌, ◌<◌, ◌≤◌, ◌^◌, true, false, if◌then◌else◌, List, [], ◌++◌, length}
use Rattle.std.specs.Prelude.{map}
use Rattle.bl_policy.specs.declared.access.Access.{Access}
use Rattle.bl_policy.specs.declared.access.Mode.{Mode}
use Rattle.bl_order.specs.Machine.{Hold, is_running}
use Rattle.bl_order.specs.Order.{accesses_of, is_rule}
use Rattle.bl_place.specs.Queueing.{QueuesTell}
use Rattle.bl_place.specs.Places.{place_in, phase_of, task_in, HasTask}
use Rattle.bl_core.specs.declared.held.Held.TheInside.{Inside}
use Rattle.bl_place.specs.declared.place.Place.{Place}

-- the subject, the document and the mode of a hold
abbrev pub item_of : Hold → ℕ × ℕ × Mode
item_of hold = (hold.subject, hold.doc, hold.mode)

-- what a subject holds by these accesses
abbrev pub items_by : ℕ → List Access → List (ℕ × ℕ × Mode)
items_by subject accesses = map (λ (a : Access). (subject, a.doc, a.mode)) accesses

-- what a place holds: what it declares, while it runs
abbrev pub items_at : List Place → ℕ → List (ℕ × ℕ × Mode)
items_at places n =
    if is_running (phase_of (place_in places n).stand)
    then items_by (place_in places n).subject (accesses_of (task_in places n))
    else []

-- what so many places hold, from this one on
abbrev pub items_from : List Place → ℕ → ℕ → List (ℕ × ℕ × Mode)
items_from places n zero = []
items_from places n (suc count) = items_at places n ++ items_from places (suc n) count

-- what is left: the accesses that are left of one place, and what the places behind it hold
abbrev pub items_left : Inside → List (ℕ × ℕ × Mode)
items_left h = items_by h.subject h.accesses.now ++ items_from h.places.now h.next (length h.places.now - h.next)

-- each running place does a behaviour, which declares something
abbrev pub AreBehaviours : List Place → Type 0
AreBehaviours places =
    (n : ℕ) → n < length places → is_running (phase_of (place_in places n).stand) ≡ true
    → HasTask places n × (is_rule (task_in places n) ≡ false) × (0 < length (accesses_of (task_in places n)))

-- what the iterator keeps
pub record LooksOn (h : Inside) : Type 0 where
  pub within : h.next ≤ length h.places.now
  pub behaviours : AreBehaviours h.places.now
  pub queued : QueuesTell h.queues.now.cowns h.queues.now.limit h.places.now (length h.places.now) h.queues.now
  pub few : length h.places.now < 2 ^ 32
