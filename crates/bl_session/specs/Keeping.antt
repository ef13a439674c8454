-- What of a session was kept before any of it was told.
use Rattle.std.specs.Prelude.{◌≡◌, ◌≢◌, ℕ, ◌<◌, ◌⊎◌, List, [], ◌++◌, length, Result, Ok, Err}
use Rattle.std.specs.Io.KnownBytes.{Appends, Consumes}
use Rattle.bl_setup.specs.Setup.{Setup}
use Rattle.bl_order.specs.Machine.{Event}
use Rattle.bl_hall.specs.Chronicle.{Chronicle, state_now}
use Rattle.bl_wire.specs.Lines.{lines_of}
use Rattle.bl_wire.specs.Replies.{line_text}
use Rattle.bl_wire.specs.Texts.{session_text}
use Rattle.bl_wire.specs.Turns.{AreTurns}
use Rattle.bl_wire.specs.Watch.{Use}
use Rattle.bl_wire.specs.declared.fault.SessionFault.{SessionFault}
use Rattle.bl_wire.specs.declared.fault.SessionFault.TheVariants as faults
use Rattle.bl_wire.specs.declared.turn.Turn.{Turn}
use Rattle.bl_engine.specs.BlockText.{Begins}
use Rattle.bl_engine.specs.Outcome.{LacksTheLast}
use Rattle.bl_engine.specs.Requests.{told_by}
use Rattle.bl_engine.specs.declared.request.Request.{Request}
use Rattle.bl_session.specs.One.{new_hall, next_session}
use Rattle.bl_session.specs.Pages.{with_events}
use Rattle.bl_session.specs.declared.keep.Stop.{Stop}
use Rattle.bl_session.specs.declared.keep.Stop.TheVariants.{Fault, NotKept}
use Rattle.bl_session.specs.declared.keep.Unreached.{Unreached}
use Rattle.bl_session.specs.declared.keep.Unreached.TheVariants.{Memory, Failed}

-- one hall began as another did, and its events are a front of those of the other
abbrev pub IsFrontOf : Chronicle → Chronicle → Type 0
IsFrontOf front whole = (more : List Event) × (whole ≡ with_events front more)

-- what a trail that was not kept is to its session
abbrev pub stop_of : Unreached → Stop
stop_of Memory = Fault faults.Memory
stop_of Failed = NotKept

-- what is written at a stop is as after this fault: a trail that is not kept ends a session where memory refused would
abbrev pub fault_of : Stop → SessionFault
fault_of (Fault fault) = fault
fault_of NotKept = faults.Memory

-- nobody else speaks for a session with one worker, and its trail is always kept by who may not fail
abbrev pub MayStop : Type 0 → Stop → Type 0
MayStop may_fail (Fault fault) = fault ≢ faults.Clash
MayStop may_fail NotKept = may_fail

-- how a trail is held after a session: who keeps it has come as far, or has failed since
abbrev pub IsHeld : (reached has_kept : Chronicle → Type 0) → Result (Unit {0}) Stop → Chronicle → Type 0
IsHeld reached has_kept (Ok done) kept = reached kept
IsHeld reached has_kept (Err (Fault fault)) kept = reached kept
IsHeld reached has_kept (Err NotKept) kept = has_kept kept

-- no session was asked for, or the trail has it under this number
abbrev pub IsOpenIn : ℕ → Chronicle → List Request → Type 0
IsOpenIn session kept told = (told ≡ []) ⊎ (session < length (state_now kept).sessions)

-- What is written was told of this trail, which is of the setup and the limit of the hall that the session began in: it
-- begins the text of the lines that were heard, by the state that the trail leads to, and where they ask for a session
-- the trail has it, the next after those that were there. What was heard are the lines that were read, but perhaps the
-- last.
pub record IsToldAfter (begun kept : Chronicle) (reader writer : Use) : Type 0 where
  pub setup_is : kept.setup ≡ begun.setup
  pub limit_is : kept.limit ≡ begun.limit
  pub bytes : List ℕ
  pub part : List ℕ
  pub took : Consumes reader.before reader.after (bytes ++ part)
  pub turns : List Turn
  pub are : AreTurns begun.setup.names (lines_of bytes) turns
  pub heard : List Turn
  pub few : LacksTheLast heard turns
  pub opened : IsOpenIn (next_session (state_now begun)) kept (told_by heard)
  pub written : List ℕ
  pub put : Appends writer.before writer.after written
  pub begins : Begins written (session_text (line_text (state_now kept) (next_session (state_now begun))) heard)

-- where nothing had happened before
abbrev pub IsToldOf : Setup → ℕ → Chronicle → Use → Use → Type 0
IsToldOf setup limit kept reader writer = IsToldAfter (new_hall setup limit) kept reader writer
