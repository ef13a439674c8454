-- A replayer and a hall, in step, and how a follower stands by them.
use Rattle.std.specs.Prelude.{◌≡◌, ℕ, ◌≤◌, List, length}
use Rattle.bl_order.specs.Machine.{Event, Needs}
use Rattle.bl_trail.specs.EventText.{event_text}
use Rattle.bl_trail.specs.Versions.{HasEvent}
use Rattle.bl_hall.specs.Chronicle.{state_now}
use Rattle.bl_replay.specs.Keeps.{Replays}
use Rattle.bl_journal.specs.Journals.{GoesNoFurther}
use Rattle.bl_rebuild.specs.Following.{Course}
use Rattle.bl_rebuild.specs.Remaking.{IsMade, IsWhole}
use Rattle.bl_rebuild.specs.declared.follower.Follower.TheInside.{Inside}
use Rattle.bl_rebuild.specs.declared.follower.Stage.{Stage}
use Rattle.bl_rebuild.specs.declared.follower.Stage.TheVariants.{Follows, Over, Failed}
use Rattle.bl_rebuild.specs.declared.stepper.Stepper.{Stepper}

-- the replayer and the hall stand at one state, and this text is still to come
pub record IsInStep (stepper : Stepper) (text : List ℕ) : Type 0 where
  pub whole : IsWhole stepper.remade
  pub replays : Replays stepper.replayer (state_now stepper.remade.hall) text

-- the line was that of an event which the version has and which might come next; it was made
pub record HasStepped (before : Stepper) (line rest : List ℕ) (after : Stepper) : Type 0 where
  pub event : Event
  pub needs : Needs (state_now before.remade.hall) event
  pub has : HasEvent (state_now before.remade.hall).setup.version event
  pub text : line ≡ event_text (state_now before.remade.hall) event
  pub made : IsMade before.remade event after.remade
  pub step : IsInStep after rest

-- how a stepper stands before a text, by the stage: where a growth was refused, nothing is known
abbrev pub Stands : Stage → Stepper → List ℕ → Type 0
Stands Follows stepper text = IsInStep stepper text
Stands Over stepper text = IsWhole stepper.remade × GoesNoFurther (state_now stepper.remade.hall) text
Stands Failed stepper text = Unit {0}

abbrev pub course_of : Inside → Course
course_of follower = record { hall = follower.stepper.remade.hall; text = follower.text.now; rest = follower.rest.now }

-- what a follower keeps
pub record KeepsItsCourse (follower : Inside) : Type 0 where
  pub within : length follower.rest.now ≤ length follower.text.now
  pub stands : Stands follower.stage follower.stepper follower.rest.now
