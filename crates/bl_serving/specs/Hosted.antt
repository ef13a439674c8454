-- How a run of `serve` ends whose trail is kept as it goes.
use Rattle.std.specs.Prelude.{◌≡◌, ◌⊎◌, ◌↔◌, ℕ, zero, suc, Bool, true, false, List, ◌++◌, Option, Some, None, take}
use Rattle.std.specs.Io.KnownBytes.{Appends, Keeps}
use Rattle.bl_trail_run.specs.Files.{file_in, is_whole}
use Rattle.bl_trail_run.specs.Recording.{HasRecorded, IsWhole}
use Rattle.bl_trail_run.specs.declared.begin.Start.{Start}
use Rattle.bl_trail_run.specs.declared.recorded.Recorded.{Recorded}
use Rattle.bl_gate.specs.Gates.{hall_seen}
use Rattle.bl_serving.specs.declared.recorded.BegunRun.{BegunRun}
use Rattle.bl_audit.specs.Bookmarks.{HasGrown}
use Rattle.bl_disk.specs.File.{File, seen}
use Rattle.bl_hall.specs.Chronicle.{Chronicle}
use Rattle.bl_entrance.specs.declared.ended.Ended.{Ended}
use Rattle.bl_journal_files.specs.Telling.{cut_line}
use Rattle.bl_live.specs.Telling.{AreNotices}
use Rattle.bl_serving.specs.Serving.{faults_found, hosted_text, listening}
use Rattle.bl_status.specs.Status.{status_after, status_of}
use Rattle.bl_status.specs.declared.fault.ProgramFault.{ProgramFault}
use Rattle.bl_status.specs.declared.fault.ProgramFault.TheVariants.{NoMemory, Write}
use Rattle.bl_setup.specs.Setup.{Setup}
use Rattle.bl_wire.specs.Watch.{EndState, Puts, Use}
use Rattle.bl_trail_run.specs.Beginning.{Begins, IsUnbegun}
use Rattle.bl_serving.specs.Telling.{trail_text, words_at}

-- what is left of the trail of a hall: it is whole, and that of the hall; or there is a fault
abbrev pub IsLeftOf : Chronicle → Option ProgramFault → File → Type 0
IsLeftOf hall None file = IsWhole hall file
IsLeftOf hall (Some fault) file = Unit {0}

-- what is left of the trail of a run that began in this hall: it is whole, and that of the hall later; or there is a
-- fault
abbrev pub IsLeft : Chronicle → Option ProgramFault → File → Type 0
IsLeft begun None file = (hall : Chronicle) × HasGrown begun hall × IsWhole hall file
IsLeft begun (Some fault) file = Unit {0}

-- the status after the fault of the trail: the first fault gives it
abbrev pub status_with : ℕ → Option ProgramFault → ℕ
status_with status None = status
status_with zero (Some fault) = status_of fault
status_with (suc n) (Some fault) = suc n

-- Sessions were served in the hall that the run began with. What was met while others ran was told then; what was found
-- by the end is told in its order, the trail's fault last, and the first fault gives the status. Where each thread was
-- started the trail is whole, or has a fault; where one was not, it is left as it is.
pub record HasHosted (begun : Chronicle) (status : ℕ) (is_whole : Bool) (file : File)
    (before after : EndState) : Type 0 where
  pub threads : Bool
  pub ended : List Ended
  pub memory : Bool
  pub live : List ℕ
  pub during : AreNotices live
  pub trail : Option ProgramFault
  pub left : threads ≡ true → IsLeft begun trail file
  pub unclosed : threads ≡ false → trail ≡ None
  pub whole : (is_whole ≡ true) ↔ ((threads ≡ true) × (trail ≡ None))
  pub status_is : status ≡ status_with (status_after 0 (faults_found threads memory)) trail
  pub said : Puts (live ++ (hosted_text threads ended memory ++ trail_text trail)) before after

-- the hall in which all happened, where each thread was started: it has grown from the one that the run began with, and
-- the trail in the file is its own where it is whole
abbrev pub IsHallOf : Chronicle → Bool → File → Option Chronicle → Type 0
IsHallOf begun whole file None = whole ≡ false
IsHallOf begun whole file (Some hall) = HasGrown begun hall × (whole ≡ true → IsWhole hall file)

-- A gate stands round the hall that a run begins with, from such a start, and the journal has kept all of that.
pub record HasBegun {D : Type 0} (now : D → File) (has_failed : D → Bool) (start : Start D) (setup : Setup) (limit : ℕ)
    (run : BegunRun D) : Type 0 where
  pub hall : Chronicle
  pub begins : Begins start.resumes setup limit (seen (now start.device)) hall run.cut
  pub made : run.made.1.gate ≡ run.made.0
  pub parts : run.made.1.parts ≡ 64
  pub sees : hall_seen run.made.1 ≡ hall
  pub recorded : HasRecorded now has_failed run.journal hall

-- Nothing was begun: why is told, and the file is left.
abbrev pub IsUnbegunRun : {D : Type 0} → (name : D → List ℕ) → (D → File) → (D → Bool) → Start D → Setup → Recorded D
    → EndState → EndState → Type 0
IsUnbegunRun name now has_failed start setup ended before after = (fault : ProgramFault) × (is_whole ended.file ≡ false)
    × (ended.status ≡ status_of fault) × Puts (words_at (file_in name ended.file) fault) before after
    × (IsUnbegun start.resumes setup (seen (now start.device)) (file_in has_failed ended.file) fault ⊎ (fault ≡ NoMemory))

-- Sessions were served: after what was cut off was told, and `listening`.
pub record HasServed (resumes : Bool) (setup : Setup) (limit : ℕ) (text : List ℕ) (status : ℕ) (is_whole : Bool)
    (file : File) (output : Use) (before after : EndState) : Type 0 where
  pub begun : Chronicle
  pub cut : ℕ
  pub begins : Begins resumes setup limit text begun cut
  pub listens : Appends output.before output.after listening
  pub between : EndState
  pub told : Puts (cut_line cut) before between
  pub hosted : HasHosted begun status is_whole file between after

-- No session was served, since nothing was begun; or a growth was refused for the gate; or `listening` could not be
-- told. The fault is told, and of a file that cannot be written its name.
abbrev pub IsUnserved : (name : List ℕ) → Bool → Setup → ℕ → List ℕ → Bool → ProgramFault → ℕ → Use → EndState
    → EndState → Type 0
IsUnserved name resumes setup limit text has_failed fault status output before after = (status ≡ status_of fault)
    × ((Keeps output.before output.after × Puts (words_at name fault) before after
    × (IsUnbegun resumes setup text has_failed fault ⊎ (fault ≡ NoMemory)))
    ⊎ ((fault ≡ Write) × (output.failed ≡ true)
    × ((n : ℕ) × Appends output.before output.after (take n listening))
    × ((begun : Chronicle) × (cut : ℕ) × Begins resumes setup limit text begun cut
    × Puts (cut_line cut ++ words_at name fault) before after)))

-- sessions were served, or none was, over the file of this name
abbrev pub IsServing : (name : List ℕ) → Bool → Setup → ℕ → List ℕ → ℕ → (is_whole has_failed : Bool) → File → Use
    → EndState → EndState → Type 0
IsServing name resumes setup limit text status is_whole has_failed file output before after =
    HasServed resumes setup limit text status is_whole file output before after
    ⊎ ((fault : ProgramFault) × (is_whole ≡ false)
    × IsUnserved name resumes setup limit text has_failed fault status output before after)
