-- What a run of the command `serve` tells, and how it ends.
use Rattle.std.specs.Prelude.{◌≡◌, ◌⊎◌, ℕ, Bool, true, false, not, List, [], ◌∷◌, ◌++◌, Option, None}
use Rattle.std.specs.Prelude.{codes, take}
use Rattle.std.specs.List.{flat_map}
use Rattle.std.specs.Io.KnownBytes.{Appends, Keeps}
use Rattle.bl_setup.specs.Setup as setups
use Rattle.bl_setup.specs.Grammar.{IsSetup}
use Rattle.bl_gate.specs.Gates.{GateId, PassView}
use Rattle.bl_entrance.specs.declared.ended.Ended.{Ended}
use Rattle.bl_live.specs.Telling.{AreNotices, ended_line}
use Rattle.bl_wire.specs.Watch.{Use}
use Rattle.bl_status.specs.declared.fault.ProgramFault.{ProgramFault}
use Rattle.bl_status.specs.declared.fault.ProgramFault.TheVariants.{Write, NoMemory}
use Rattle.bl_keep.specs.declared.whole.Unkept.{Unkept}
use Rattle.bl_status.specs.Failure.{IsNotRead}
use Rattle.bl_keep.specs.Unkept.{unkept_faults, unkept_text}
use Rattle.bl_trail_file.specs.Telling.{IsUnkept}
use Rattle.bl_status.specs.Message.{fault_line}
use Rattle.bl_status.specs.Runs.{HasToldAt}
use Rattle.bl_status.specs.Status.{status_after}

-- a gate round a hall of this setup and limit in which nothing has happened, and the pass with all parts
pub record IsNewGate (setup : setups.Setup) (limit : ℕ) (gate : GateId) (pass : PassView) : Type 0 where
  pub of : pass.gate ≡ gate
  pub all : pass.parts ≡ 64
  pub base : pass.gate.base ≡ record { setup = setup; limit = limit; trail = [] }

-- own choice: what the program says once it listens
abbrev pub listening : List ℕ
listening = codes "listening\n"

-- the gate is made for the setup, and `listening` was told
pub record IsPrepared (begun : setups.Setup) (limit : ℕ) (gate : GateId) (pass : PassView) (output : Use) : Type 0 where
  pub made : IsNewGate begun limit gate pass
  pub told : Appends output.before output.after listening

-- No file could be made for the trail, and nothing was told; or the output failed.
abbrev pub IsUnannounced : ProgramFault → Use → Type 0
IsUnannounced fault output = (IsUnkept fault × Keeps output.before output.after)
    ⊎ ((fault ≡ Write) × (output.failed ≡ true) × ((n : ℕ) × Appends output.before output.after (take n listening)))

-- no session was served: a growth was refused before anything was told, or `listening` was not told whole
abbrev pub IsUntold : ProgramFault → Use → Type 0
IsUntold fault output = ((fault ≡ NoMemory) × Keeps output.before output.after) ⊎ IsUnannounced fault output

-- a fault, where it was found
abbrev pub found : Bool → ProgramFault → List ProgramFault
found true fault = fault ∷ []
found false fault = []

-- the faults that were found by the end of the threads, in order: a thread was not started, a session's fault was not
-- told
abbrev pub faults_found : Bool → Bool → List ProgramFault
faults_found whole memory = found (not whole) NoMemory ++ found memory NoMemory

-- what is told of them, and of the sessions that ended early
abbrev pub hosted_text : Bool → List Ended → Bool → List ℕ
hosted_text whole ended memory =
    flat_map fault_line (found (not whole) NoMemory) ++
    (flat_map ended_line ended ++ flat_map fault_line (found memory NoMemory))

-- A run that listened, for a trail of this name. What was met while others ran was told then; what was found by the end
-- is told in its order, the trail's fault last, and the first fault gives the
-- status. No trail is written where a thread was not started; else it is kept, or that it is not is told.
pub record HasHosted (name : List ℕ) (status : ℕ) (is_kept : Bool) (errors : Use) : Type 0 where
  pub whole : Bool
  pub ended : List Ended
  pub memory : Bool
  pub live : List ℕ
  pub during : AreNotices live
  pub trail : Option Unkept
  pub unwritten : whole ≡ false → trail ≡ None
  pub kept : whole ≡ true → trail ≡ None → is_kept ≡ true
  pub status_is : status ≡ status_after 0 (faults_found whole memory ++ unkept_faults trail)
  pub said : errors.failed ≡ false
      → Appends errors.before errors.after (live ++ (hosted_text whole ended memory ++ unkept_text name trail))

-- `listening` was told, and then sessions were served
pub record HasListened (name : List ℕ) (status : ℕ) (is_kept : Bool) (output errors : Use) : Type 0 where
  pub told : Appends output.before output.after listening
  pub hosted : HasHosted name status is_kept errors

-- over a setup: sessions were served after `listening` was told, for a trail of this name; or none was, and the fault was
-- told
abbrev pub IsServeOver : (name : List ℕ) → ℕ → Bool → Use → Use → Type 0
IsServeOver name status is_kept output errors = HasListened name status is_kept output errors
    ⊎ ((fault : ProgramFault) × HasToldAt name fault status errors × IsUntold fault output)

-- these bytes are a setup, and so it went over it; or they are none, which was told, and nothing was written
abbrev pub IsServe : (setup name : List ℕ) → ℕ → Bool → Use → Use → Type 0
IsServe setup name status is_kept output errors =
    ((begun : setups.Setup) × IsSetup setup begun × IsServeOver name status is_kept output errors)
    ⊎ ((fault : ProgramFault) × HasToldAt name fault status errors × IsNotRead setup fault output)
