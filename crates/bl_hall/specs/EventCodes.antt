-- A code for events, by which a proof tells two of them apart.
use Rattle.std.specs.Prelude.{◌≡◌, ℕ, refl}
use Rattle.std.specs.Coded.{Coded, coded_ℕ, coded×, code_by}
use Rattle.std.proofs.Common.{◌⊎◌, inl, inr}
use base.Stored.{coded⊎}
use Rattle.bl_work.specs.WorkCodes.{coded_work}
use Rattle.bl_work.specs.declared.work.Work.{Work}
use Rattle.bl_order.specs.Machine.{Event, Opens, Admits, Starts, Ends, Loses}

-- an event: the subject of an opening, the session, the ordinal and the work of a line, or the place of one of the
-- others
abbrev StoredEvent : Type 0
StoredEvent = (ℕ ⊎ (ℕ × (ℕ × Work))) ⊎ (ℕ ⊎ (ℕ ⊎ ℕ))

abbrev stored_event : Event → StoredEvent
stored_event (Opens subject) = inl (inl subject)
stored_event (Admits session ordinal work) = inl (inr (session, (ordinal, work)))
stored_event (Starts n) = inr (inl n)
stored_event (Ends n) = inr (inr (inl n))
stored_event (Loses n) = inr (inr (inr n))

abbrev event_from : StoredEvent → Event
event_from (inl (inl subject)) = Opens subject
event_from (inl (inr t)) = Admits t.0 t.1.0 t.1.1
event_from (inr (inl n)) = Starts n
event_from (inr (inr (inl n))) = Ends n
event_from (inr (inr (inr n))) = Loses n

pub event_again : (event : Event) → event_from (stored_event event) ≡ event
event_again (Opens subject) = refl
event_again (Admits session ordinal work) = refl
event_again (Starts n) = refl
event_again (Ends n) = refl
event_again (Loses n) = refl

abbrev pub coded_event : Coded Event
coded_event =
    code_by StoredEvent (coded⊎ (coded⊎ coded_ℕ (coded× coded_ℕ (coded× coded_ℕ coded_work)))
    (coded⊎ coded_ℕ (coded⊎ coded_ℕ coded_ℕ))) stored_event event_from event_again
