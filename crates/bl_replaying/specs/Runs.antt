-- How a run of the command `replay` ends.
use Rattle.std.specs.Prelude.{◌≡◌, ◌⊎◌, ℕ, List, true, take}
use Rattle.std.specs.Io.KnownBytes.{Appends}
use Rattle.bl_setup.specs.Setup as setups
use Rattle.bl_setup.specs.Grammar.{IsSetup}
use Rattle.bl_wire.specs.Watch.{Use}
use Rattle.bl_status.specs.declared.fault.ProgramFault.{ProgramFault}
use Rattle.bl_status.specs.declared.fault.ProgramFault.TheVariants.{Write}
use Rattle.bl_status.specs.Failure.{IsNotRead}
use Rattle.bl_status.specs.Runs.{HasTold}
use Rattle.bl_replaying.specs.Replays.{HasReplayed, IsCut}
use Rattle.bl_replaying.specs.Open.{HasFound, HasOpened, IsOpen, SaysUnstopped, open_line}

-- Over a setup: the verdict was told, and on standard error that `stop` alone is missing, where it is so; or the run ended
-- with a fault of memory or of the output, and told it.
abbrev pub IsReplayOver : setups.Setup → List ℕ → ℕ → Use → Use → Type 0
IsReplayOver begun trail status output errors =
    (HasReplayed begun trail status output × SaysUnstopped begun trail errors)
    ⊎ ((fault : ProgramFault) × HasTold fault status errors × IsCut begun trail fault output)

-- the bytes are no setup, which was told, and nothing was written
abbrev pub HasNoSetup : List ℕ → ℕ → Use → Use → Type 0
HasNoSetup setup status output errors = (fault : ProgramFault) × HasTold fault status errors × IsNotRead setup fault output

-- over the setup that these bytes are, where they are one
abbrev pub IsReplayOn : List ℕ → List ℕ → ℕ → Use → Use → Type 0
IsReplayOn setup trail status output errors =
    ((begun : setups.Setup) × IsSetup setup begun × IsReplayOver begun trail status output errors)
    ⊎ HasNoSetup setup status output errors

-- an open trail was told, or the verdict on one that is not open
abbrev pub TellsTrail : setups.Setup → List ℕ → ℕ → Use → Use → Type 0
TellsTrail begun trail status output errors =
    HasOpened begun trail status output errors ⊎ HasFound begun trail status output errors

-- a trail is open, and that was not told whole: the output failed
abbrev pub IsOpenCut : setups.Setup → List ℕ → ProgramFault → Use → Type 0
IsOpenCut begun trail fault output = (fault ≡ Write) × (output.failed ≡ true)
    × ((events : ℕ) × (torn : ℕ) × IsOpen begun trail events torn
    × ((n : ℕ) × Appends output.before output.after (take n (open_line events))))

-- neither was told whole: a growth was refused, or the output failed
abbrev pub IsUntold : setups.Setup → List ℕ → ProgramFault → Use → Type 0
IsUntold begun trail fault output = IsCut begun trail fault output ⊎ IsOpenCut begun trail fault output

-- The same of a trail that may be open: where it is, that was told, and the torn line behind it was left out.
abbrev pub IsOpenReplayOver : setups.Setup → List ℕ → ℕ → Use → Use → Type 0
IsOpenReplayOver begun trail status output errors =
    TellsTrail begun trail status output errors
    ⊎ ((fault : ProgramFault) × HasTold fault status errors × IsUntold begun trail fault output)

abbrev pub IsOpenReplayOn : List ℕ → List ℕ → ℕ → Use → Use → Type 0
IsOpenReplayOn setup trail status output errors =
    ((begun : setups.Setup) × IsSetup setup begun × IsOpenReplayOver begun trail status output errors)
    ⊎ HasNoSetup setup status output errors
