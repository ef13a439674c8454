-- How a run of the command `alone` ends whose trail is written at its end.
use Rattle.std.specs.Prelude.{◌≡◌, ◌⊎◌, ℕ, Bool, true, false, List, ◌++◌, Option, None}
use Rattle.std.specs.Io.KnownBytes.{Appends, Keeps}
use Rattle.std.specs.List.{flat_map}
use Rattle.std.specs.Option.{option_to_list}
use Rattle.bl_setup.specs.Setup.{Setup}
use Rattle.bl_wire.specs.Watch.{Use}
use Rattle.bl_alone.specs.Runs.{HasEnded}
use Rattle.bl_status.specs.declared.fault.ProgramFault.{ProgramFault}
use Rattle.bl_keep.specs.declared.whole.Unkept.{Unkept}
use Rattle.bl_keep.specs.Unkept.{unkept_faults, unkept_text}
use Rattle.bl_trail_file.specs.Telling.{IsUnkept}
use Rattle.bl_status.specs.Message.{fault_line}
use Rattle.bl_status.specs.Runs.{HasToldAt, Run}
use Rattle.bl_status.specs.Status.{status_after}

-- A session of the setup began, and has ended. Its fault is told, and behind it that of the trail of this name; the first
-- gives the status. Where neither has one the trail was kept.
pub record HasSat (begun : Setup) (limit : ℕ) (name : List ℕ) (is_kept : Bool) (run : Run) : Type 0 where
  pub fault : Option ProgramFault
  pub ended : HasEnded begun limit fault run.input run.output
  pub trail : Option Unkept
  pub kept : fault ≡ None → trail ≡ None → is_kept ≡ true
  pub status_is : run.status ≡ status_after 0 (option_to_list fault ++ unkept_faults trail)
  pub said : run.errors.failed ≡ false
      → Appends run.errors.before run.errors.after
      (flat_map fault_line (option_to_list fault) ++ unkept_text name trail)

-- no file could be made for the trail; nothing was read or written
pub record IsUnclaimed (fault : ProgramFault) (input output : Use) : Type 0 where
  pub why : IsUnkept fault
  pub unread : Keeps input.before input.after
  pub unwritten : Keeps output.before output.after

-- over a setup, for a trail of this name: a session was had; or none began, and the fault was told
abbrev pub IsAloneKeptOver : Setup → ℕ → List ℕ → Bool → Run → Type 0
IsAloneKeptOver begun limit name is_kept run = HasSat begun limit name is_kept run
    ⊎ ((fault : ProgramFault) × HasToldAt name fault run.status run.errors × IsUnclaimed fault run.input run.output)
