-- How far the events of a trail were followed, with the rules that their starts applied.
use Rattle.std.specs.Prelude.{◌≡◌, ◌⊎◌, ◌<◌, ℕ, suc, All, List, length, Option, Some, None}
use Rattle.bl_order.specs.Headline.{IsReached}
use Rattle.bl_order.specs.Machine.{Event, Needs, Opens, Admits, Starts, Ends, Loses, State}
use Rattle.bl_trail.specs.Follow.{Followed, IsFollowed}
use Rattle.bl_trail.specs.declared.verdict.Verdict.{Verdict}
use Rattle.bl_trail.specs.declared.verdict.Verdict.TheVariants.{Accepted, Rejected}
use Rattle.bl_hall.specs.Chronicle.{Chronicle, state_now, with_event}
use Rattle.bl_rebuild.specs.Following.{Course, HasTaken, with_events}
use Rattle.bl_status.specs.declared.fault.ProgramFault.TheVariants as program
use Rattle.bl_explain.specs.Run.{rules_of}
use Rattle.bl_explain.specs.Since.{KnowsApplied}
use Rattle.bl_explain.specs.declared.since.Applied.{Applied}
use Rattle.bl_explaining_event.specs.declared.fault.EventFault.{EventFault}
use Rattle.bl_explaining_event.specs.declared.fault.EventFault.TheVariants as failing

-- the last event of a hall is this one, which found this state
pub record HasHappened (hall : Chronicle) (x : State) (event : Event) : Type 0 where
  pub before : Chronicle
  pub finds : x ≡ state_now before
  pub hall_is : hall ≡ with_event before event
  pub needs : Needs x event
  pub reached : IsReached x

-- the place that an event starts; none where it starts nothing
abbrev pub IsStarted : Event → Option ℕ → Type 0
IsStarted (Opens subject) place = place ≡ None
IsStarted (Admits session ordinal asked) place = place ≡ None
IsStarted (Starts n) place = place ≡ Some n
IsStarted (Ends n) place = place ≡ None
IsStarted (Loses n) place = place ≡ None

-- these events were followed, and their rules noted
pub record HasGone (before after : Course) (rules : List Applied) (events : List Event) : Type 0 where
  pub followed : Followed (state_now before.hall) before.rest after.rest events
  pub hall : after.hall ≡ with_events before.hall events
  pub rules_are : rules ≡ rules_of 0 (state_now before.hall) events
  pub known : All (KnowsApplied before.hall.setup.policy) rules

-- the lines end behind so many events, or something is not right behind them
abbrev pub EndsBehind : State → List ℕ → ℕ → Verdict → Type 0
EndsBehind x text count (Accepted fewer) = IsFollowed x text (Accepted fewer) × (fewer ≡ count)
EndsBehind x text count (Rejected number) = (followed : IsFollowed x text (Rejected number)) × (length followed.0 ≡ count)

-- so many events were followed; or the lines end before that, or are not right there
abbrev pub IsGone : Course → Course → List Applied → ℕ → Option Verdict → Type 0
IsGone before after rules count None = (events : List Event) × HasGone before after rules events × (count ≡ length events)
IsGone before after rules count (Some verdict) =
    (fewer : ℕ) × (fewer < count) × EndsBehind (state_now before.hall) before.rest fewer verdict

-- the events before that of this number were followed, and their rules noted; and then it was taken
pub record IsTakenTo (before after : Course) (rules : List Applied) (number : ℕ) : Type 0 where
  pub mid : Course
  pub events : List Event
  pub gone : HasGone before mid rules events
  pub counted : number ≡ suc (length events)
  pub taken : HasTaken mid after

-- the fault that tells of the verdict on a trail which has not so many events that are right
abbrev pub fault_by : Verdict → ℕ → EventFault
fault_by (Accepted count) number = failing.NoEvent number
fault_by (Rejected line) number = failing.Program (program.WrongAt line)

-- memory was refused, or the trail ends, or is not right, before so many events
abbrev pub IsNotTaken : Course → ℕ → EventFault → Type 0
IsNotTaken before number fault =
    (fault ≡ failing.Program program.NoMemory)
    ⊎ ((verdict : Verdict) × (fewer : ℕ) × (fewer < number) × EndsBehind (state_now before.hall) before.rest fewer verdict × (fault ≡ fault_by verdict number))
