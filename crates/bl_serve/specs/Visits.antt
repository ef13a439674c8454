-- How far a session over a gate has come.
use Rattle.std.specs.Prelude.{◌≡◌, ℕ, ◌≤◌, List, [], ◌∷◌, ◌++◌, ◌⊎◌, Option, Some, None, All, length}
use Rattle.bl_work.specs.Names.{KnownNames}
use Rattle.bl_setup.specs.Agreement.{Agree}
use Rattle.bl_order.specs.Machine.{most_sessions}
use Rattle.bl_hall.specs.Chronicle.{HasTrail}
use Rattle.bl_hall.specs.declared.reply.Reply.{Reply}
use Rattle.bl_gate.specs.Gates.{GateId, PassView, Follows, hall_seen, state_seen}
use Rattle.bl_wire.specs.declared.fault.SessionFault.{SessionFault}
use Rattle.bl_wire.specs.declared.fault.SessionFault.TheVariants.{Memory, Clash}
use Rattle.bl_engine.specs.declared.request.Request.{Request}
use Rattle.bl_serve.specs.Courses.{IsCourse, IsOwn, SpeaksAlone, Course}
use Rattle.bl_serve.specs.Told.{told_text, IsBlock, IsTold}
use Rattle.bl_serve.specs.declared.visit.Visit.{Visit}
use Rattle.bl_serve.specs.declared.visit.Visitor.{Visitor}

-- The pass is of the gate and follows what it was at first, the setup of the gate's hall agrees with itself, and what
-- was told are replies to lines up to the last one that was settled.
pub record IsOf (gate : GateId) (first : PassView) (visit : Visit) (replies : List Reply) : Type 0 where
  pub agree : Agree gate.base.setup
  pub gate_is : visit.pass.gate ≡ gate
  pub follows : Follows first visit.pass
  pub told : All (IsTold gate.base.setup.names 0 visit.upto) replies
  pub within : visit.upto ≤ visit.last

-- nothing was told to the gate yet, and nothing by it
pub record IsSilent (first : PassView) (visit : Visit) (replies : List Reply) (told : List Request) : Type 0 where
  pub none : told ≡ []
  pub own : visit.pass.own ≡ first.own
  pub quiet : replies ≡ []
  pub last : visit.last ≡ 0

-- the course of a visit's session
abbrev pub course_of : KnownNames → Visit → List Reply → ℕ → Course
course_of names visit replies session = record {
  session = session;
  last = visit.last;
  upto = visit.upto;
  replies = told_text names replies;
}

-- without a session nothing was told; with one this was told of it, and the pass has made no event but those of this
-- session
abbrev pub HasTold : GateId → PassView → Visit → List Reply → Option ℕ → List Request → Type 0
HasTold gate first visit replies None told = IsSilent first visit replies told
HasTold gate first visit replies (Some session) told =
    IsOwn first visit.pass session
    × IsCourse gate.base.setup.names first visit.pass (course_of gate.base.setup.names visit replies session) told

-- what was told to the gate, and by it, brought the visit here
pub record HasCome (gate : GateId) (first : PassView) (visit : Visit) (replies : List Reply) (told : List Request)
    : Type 0 where
  pub own : IsOf gate first visit replies
  pub course : HasTold gate first visit replies visit.session told

-- nothing more was told
abbrev pub GoesOn : GateId → PassView → (old new : Visit) → Type 0
GoesOn gate first old new =
    (replies : List Reply) (told : List Request) → HasCome gate first old replies told
    → HasCome gate first new replies told

-- this request was, and these replies
abbrev pub GoesOnWith : GateId → PassView → (old new : Visit) → List Reply → Request → Type 0
GoesOnWith gate first old new more request =
    (replies : List Reply) (told : List Request) → HasCome gate first old replies told
    → HasCome gate first new (replies ++ more) (told ++ request ∷ [])

-- there are as many sessions as there may be, as the pass has seen
pub record IsCrowded (pass : PassView) : Type 0 where
  pub trail : HasTrail (hall_seen pass)
  pub full : most_sessions ≤ length (state_seen pass).sessions

-- another pass spoke for the session that the pass opened
abbrev pub IsSpokenFor : (before after : PassView) → Type 0
IsSpokenFor before after = (session : ℕ) × IsOwn before after session × (SpeaksAlone before after session → ⊥)

-- what a session is served over: the gate, and what its pass was at first
pub record Home : Type 0 where
  pub gate : GateId
  pub first : PassView

abbrev pub home : {P T : Type 0} → Visitor P T → Home
home visitor = record { gate = visitor.gate.now; first = visitor.first.value }

-- something that was told to the gate, and by it, brought the visit here
abbrev pub IsVisit : Home → Visit → Type 0
IsVisit at visit = (replies : List Reply) × (told : List Request) × HasCome at.gate at.first visit replies told

-- what was told goes on with these replies and this request
abbrev pub Gains : Home → (old new : Visit) → List Reply → Request → Type 0
Gains at old new more request = GoesOnWith at.gate at.first old new more request

-- these are replies to the lines after one ordinal and up to another, in the names of the gate's hall
abbrev pub IsBlockOf : Home → (after upto : ℕ) → List Reply → Type 0
IsBlockOf at after upto block = IsBlock at.gate.base.setup.names after upto block

-- why a work is not asked for: a growth was refused, or another pass spoke for the session that the pass opened
abbrev pub IsUnasked : (before after : PassView) → SessionFault → Type 0
IsUnasked before after fault = (fault ≡ Memory) ⊎ ((fault ≡ Clash) × IsSpokenFor before after)
