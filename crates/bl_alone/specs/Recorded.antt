-- How a run of the command `alone` ends whose trail is kept as it goes.
use Rattle.std.specs.Prelude.{◌≡◌, ◌≢◌, ◌⊎◌, ◌↔◌, ◌≤◌, ℕ, Bool, true, false, List, ◌++◌, length}
use Rattle.std.specs.Prelude.{Option, Some, None, Result, Err}
use Rattle.std.specs.Io.KnownBytes.{Appends, Keeps}
use Rattle.std.specs.List.{flat_map}
use Rattle.std.specs.Option.{option_to_list}
use Rattle.bl_disk.specs.File.{File}
use Rattle.bl_hall.specs.Chronicle.{Chronicle, state_now}
use Rattle.bl_journal_files.specs.Telling.{cut_line}
use Rattle.bl_order.specs.Machine.{most_sessions}
use Rattle.bl_session.specs.Ended.{HasEndedAfter}
use Rattle.bl_session.specs.Keeping.{IsFrontOf, IsToldAfter}
use Rattle.bl_session.specs.declared.keep.Stop.{Stop}
use Rattle.bl_session.specs.declared.keep.Stop.TheVariants.{NotKept}
use Rattle.bl_setup.specs.Setup.{Setup}
use Rattle.bl_status.specs.Message.{fault_line}
use Rattle.bl_status.specs.Runs.{HasToldAt, Run}
use Rattle.bl_status.specs.Status.{status_after, status_of}
use Rattle.bl_status.specs.declared.fault.ProgramFault.{ProgramFault}
use Rattle.bl_status.specs.declared.fault.ProgramFault.TheVariants.{CutShort, NoMoreSessions}
use Rattle.bl_trail_run.specs.Beginning.{Begins, IsUnbegun}
use Rattle.bl_trail_run.specs.Recording.{IsLeft}
use Rattle.bl_alone.specs.Telling.{IsOfSessionEnd}

-- A session has ended that began in this hall. All that is written was told of a trail that goes on from the hall's and
-- that the file has: whole, or so that a crash loses none of it. So many bytes were cut off before, which is told; then
-- the fault of the session, and that of the trail. Where the trail was not kept while the session was served, it has one,
-- and it is cut short only where the file has failed.
pub record HasSatAfter (begun : Chronicle) (cut : ℕ) (is_whole has_failed : Bool) (file : File) (run : Run) : Type 0 where
  pub served : Result (Unit {0}) Stop
  pub hall : Chronicle
  pub ended : HasEndedAfter begun hall served run.input run.output
  pub kept : Chronicle
  pub since : IsFrontOf begun kept
  pub told : IsToldAfter begun kept run.input run.output
  pub trail : Option ProgramFault
  pub left : IsLeft kept hall trail file
  pub cut_short : served ≡ Err NotKept → trail ≢ None
  pub cause : trail ≡ Some CutShort → has_failed ≡ true
  pub whole : (is_whole ≡ true) ↔ (trail ≡ None)
  pub stopped : Option ProgramFault
  pub stopped_is : IsOfSessionEnd served stopped
  pub status_is : run.status ≡ status_after 0 (option_to_list stopped ++ option_to_list trail)
  pub said : run.errors.failed ≡ false → Appends run.errors.before run.errors.after
      (cut_line cut ++ flat_map fault_line (option_to_list stopped ++ option_to_list trail))

-- no session began, since there are as many as may be, and nothing was read or written; that was told
pub record HasNotSatAfter (begun : Chronicle) (is_whole : Bool) (run : Run) : Type 0 where
  pub full : most_sessions ≤ length (state_now begun).sessions
  pub part : is_whole ≡ false
  pub status_is : run.status ≡ status_of NoMoreSessions
  pub said : run.errors.failed ≡ false → Appends run.errors.before run.errors.after (fault_line NoMoreSessions)
  pub unread : Keeps run.input.before run.input.after
  pub unwritten : Keeps run.output.before run.output.after

-- what came of a hall that the run began with
abbrev pub HasGoneOn : Chronicle → ℕ → (is_whole has_failed : Bool) → File → Run → Type 0
HasGoneOn begun cut is_whole has_failed file run =
    HasSatAfter begun cut is_whole has_failed file run ⊎ HasNotSatAfter begun is_whole run

-- the run began over the setup, with a new hall under the limit, or with the hall of the run that left this text
pub record HasBegun (resumes : Bool) (setup : Setup) (limit : ℕ) (text : List ℕ) (is_whole has_failed : Bool) (file : File)
    (run : Run) : Type 0 where
  pub begun : Chronicle
  pub cut : ℕ
  pub begins : Begins resumes setup limit text begun cut
  pub on : HasGoneOn begun cut is_whole has_failed file run

-- nothing was begun, and nothing was read or written; the fault was told, with the name of the file where that cannot be
-- written
pub record HasNotBegun (resumes : Bool) (setup : Setup) (text name : List ℕ) (is_whole has_failed : Bool) (run : Run)
    : Type 0 where
  pub fault : ProgramFault
  pub why : IsUnbegun resumes setup text has_failed fault
  pub part : is_whole ≡ false
  pub told : HasToldAt name fault run.status run.errors
  pub unread : Keeps run.input.before run.input.after
  pub unwritten : Keeps run.output.before run.output.after

-- a run over a setup, under a limit, and the file of this text, which has this name and is left so
abbrev pub IsRecordedOver : Bool → Setup → ℕ → (text name : List ℕ) → (is_whole has_failed : Bool) → File → Run → Type 0
IsRecordedOver resumes setup limit text name is_whole has_failed file run =
    HasBegun resumes setup limit text is_whole has_failed file run
    ⊎ HasNotBegun resumes setup text name is_whole has_failed run
