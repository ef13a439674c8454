-- How a run of a command ends.
use Rattle.std.specs.Prelude.{◌≡◌, ◌⊎◌, ℕ, List, Bool, true, Option, Some, None}
use Rattle.std.specs.Io.KnownBytes.{Keeps}
use Rattle.bl_alone.specs.AloneKept.{IsAloneKeptOver}
use Rattle.bl_alone.specs.Runs.{IsRunOver}
use Rattle.bl_asked.specs.declared.trail.TrailFile.{TrailFile}
use Rattle.bl_serving.specs.Serving.{IsServeOver}
use Rattle.bl_setup.specs.Grammar.{IsSetup}
use Rattle.bl_setup.specs.Setup.{Setup}
use Rattle.bl_status.specs.Failure.{IsNotBegun}
use Rattle.bl_options.specs.declared.trail.TrailKeeping.{TrailKeeping}
use Rattle.bl_options.specs.declared.trail.TrailKeeping.TheVariants.{AtEnd, Written, Synced}
use Rattle.bl_status.specs.declared.fault.ProgramFault.{ProgramFault}
use Rattle.bl_status.specs.declared.fault.ProgramFault.TheVariants.{NoMemory}
use Rattle.clap.specs.declared.error.kind.ErrorKind.{ErrorKind}
use Rattle.clap.specs.declared.error.kind.ErrorKind.TheVariants.{DisplayHelp, DisplayVersion}
use Rattle.bl_wire.specs.Watch.{Use}
use Rattle.bl_words.specs.Status.{status_for}
use Rattle.bl_status.specs.Runs.{HasTold, Run}

-- the fault was told, and nothing was read or written
abbrev pub HasOnlyTold : ProgramFault → Run → Type 0
HasOnlyTold fault run = HasTold fault run.status run.errors × Keeps run.input.before run.input.after
    × Keeps run.output.before run.output.after

-- what is shown stands on one end alone: help and the version on the output, and anything else on standard error
abbrev pub IsShown : ErrorKind → Use → Use → Type 0
IsShown DisplayHelp output errors = Keeps errors.before errors.after
IsShown DisplayVersion output errors = Keeps errors.before errors.after
IsShown _ output errors = Keeps output.before output.after

-- Words that name no command. Help and the version are shown on the output, and anything else on standard error, and
-- nothing on the other; or a growth was refused, which alone is told.
pub record IsRefused (kind : ErrorKind) (status : ℕ) (output errors : Use) : Type 0 where
  pub why : ((status ≡ status_for kind) × IsShown kind output errors)
      ⊎ (HasTold NoMemory status errors × Keeps output.before output.after)

-- How a session ends over a setup, under a limit, by what was asked of its trail: none, or one at its end, which is kept
-- where the status is 0. Of one that is kept as the session goes nothing is said here.
abbrev pub EndsAlone : Option TrailFile → TrailKeeping → Setup → ℕ → Run → Type 0
EndsAlone None keeping setup limit run = IsRunOver setup limit run
EndsAlone (Some trail) AtEnd setup limit run =
    (is_kept : Bool) × (run.status ≡ 0 → is_kept ≡ true) × IsAloneKeptOver setup limit trail.name.now is_kept run
EndsAlone (Some trail) Written setup limit run = Unit {0}
EndsAlone (Some trail) Synced setup limit run = Unit {0}

-- over the setup that these bytes are; where they are none that was told, and nothing was read or written
abbrev pub IsAloneAsked : Option TrailFile → TrailKeeping → ℕ → List ℕ → Run → Type 0
IsAloneAsked trail keeping limit bytes run =
    ((begun : Setup) × IsSetup bytes begun × EndsAlone trail keeping begun limit run)
    ⊎ ((fault : ProgramFault) × HasTold fault run.status run.errors × IsNotBegun bytes fault run.input run.output)

-- how a run of `serve` ends whose trail is written at its end under this name, and is kept where the status is 0
abbrev pub EndsServe : (name : List ℕ) → ℕ → Use → Use → Type 0
EndsServe name status output errors =
    (is_kept : Bool) × (status ≡ 0 → is_kept ≡ true) × IsServeOver name status is_kept output errors
