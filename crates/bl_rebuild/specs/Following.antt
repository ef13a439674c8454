-- How far a text was followed.
use Rattle.std.specs.Prelude.{◌≡◌, ℕ, List, [], ◌∷◌, ◌++◌}
use Rattle.bl_setup.specs.Setup.{Setup}
use Rattle.bl_setup.specs.declared.version.Version.TheVariants.{Two}
use Rattle.bl_order.specs.Machine.{Event, Needs}
use Rattle.bl_trail.specs.Asks.{HasNo}
use Rattle.bl_trail.specs.EventText.{event_text}
use Rattle.bl_trail.specs.Follow.{Followed}
use Rattle.bl_trail.specs.TrueText.{IsLimit, head_lines, joined}
use Rattle.bl_trail.specs.Versions.{HasEvent}
use Rattle.bl_hall.specs.Chronicle.{Chronicle, state_now, with_event}
use Rattle.bl_journal.specs.Journals.{GoesNoFurther}

-- Course (own choice): a text, what of it is still to be followed, and a hall, in which the events of the lines in
-- front of that have happened
pub record Course : Type 0 where
  pub hall : Chronicle
  pub text : List ℕ
  pub rest : List ℕ

-- no event has happened: a hall over the setup, of the limit that stands in the head, and all that stands behind that
pub record IsBegun (setup : Setup) (text : List ℕ) (course : Course) : Type 0 where
  pub limit : ℕ
  pub is_limit : IsLimit limit
  pub head : text ≡ joined (head_lines Two limit) ++ course.rest
  pub hall : course.hall ≡ record { setup = setup; limit = limit; trail = [] }
  pub text_is : course.text ≡ text

-- the next line was that of an event which the version has and which might come next; it has happened
pub record HasTaken (before after : Course) : Type 0 where
  pub event : Event
  pub needs : Needs (state_now before.hall) event
  pub has : HasEvent (state_now before.hall).setup.version event
  pub plain : HasNo 10 (event_text (state_now before.hall) event)
  pub line : before.rest ≡ event_text (state_now before.hall) event ++ 10 ∷ after.rest
  pub hall : after.hall ≡ with_event before.hall event
  pub text : after.text ≡ before.text

-- with these events more
abbrev pub with_events : Chronicle → List Event → Chronicle
with_events h events = record { setup = h.setup; limit = h.limit; trail = h.trail ++ events }

-- the events of the lines in front have happened, and the rest goes no further
pub record HasFollowed (before after : Course) : Type 0 where
  pub events : List Event
  pub followed : Followed (state_now before.hall) before.rest after.rest events
  pub hall : after.hall ≡ with_events before.hall events
  pub no_further : GoesNoFurther (state_now after.hall) after.rest
  pub text : after.text ≡ before.text
