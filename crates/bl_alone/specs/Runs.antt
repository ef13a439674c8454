-- How a run of the command `alone` ends that keeps no trail.
use Rattle.std.specs.Prelude.{◌≡◌, ◌⊎◌, ℕ, List, Option, Some, None}
use Rattle.std.specs.Io.KnownBytes.{Keeps}
use Rattle.bl_setup.specs.Setup as setups
use Rattle.bl_setup.specs.Grammar.{IsSetup}
use Rattle.bl_wire.specs.Watch.{Use}
use Rattle.bl_session.specs.Outcome.{IsServed, IsCutShort}
use Rattle.bl_wire.specs.declared.fault.SessionFault.{SessionFault}
use Rattle.bl_status.specs.declared.fault.ProgramFault.{ProgramFault}
use Rattle.bl_status.specs.Failure.{IsNotBegun, IsOfSession}
use Rattle.bl_status.specs.Runs.{HasTold, Run}

-- the session of this setup was served, or ended early by the fault
abbrev pub HasEnded : setups.Setup → ℕ → Option ProgramFault → Use → Use → Type 0
HasEnded setup limit None input output = IsServed setup limit input output
HasEnded setup limit (Some fault) input output = (of : SessionFault) × IsOfSession of fault
    × IsCutShort setup limit of input output

-- the session was served under this setup and this limit, and nothing was said
pub record HasServed (begun : setups.Setup) (limit : ℕ) (run : Run) : Type 0 where
  pub status_is : run.status ≡ 0
  pub served : IsServed begun limit run.input run.output
  pub quiet : Keeps run.errors.before run.errors.after

-- over a setup: the session was served, or it ended early by a fault, which was told
abbrev pub IsRunOver : setups.Setup → ℕ → Run → Type 0
IsRunOver begun limit run =
    HasServed begun limit run
    ⊎ ((fault : ProgramFault) × HasTold fault run.status run.errors
    × HasEnded begun limit (Some fault) run.input run.output)

-- over the setup that these bytes are; where they are none that was told, and nothing was read or written
abbrev pub IsRun : List ℕ → ℕ → Run → Type 0
IsRun setup limit run =
    ((begun : setups.Setup) × IsSetup setup begun × IsRunOver begun limit run)
    ⊎ ((fault : ProgramFault) × HasTold fault run.status run.errors × IsNotBegun setup fault run.input run.output)
