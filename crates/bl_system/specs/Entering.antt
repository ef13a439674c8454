-- What a run of `serve` has open before its sessions, or why it serves nobody, as it is told.
use Rattle.std.specs.Prelude.{◌≡◌, ℕ, List, Result, Ok, Err, if◌then◌else◌, codes, false, nat_eq}
use Rattle.std.specs.Io.KnownBytes.{Appends}
use Rattle.bl_wire.specs.Watch.{Use}
use Rattle.bl_doors.specs.Doors.{AreDoors}
use Rattle.bl_log.specs.Telling as logs
use Rattle.bl_entrance.specs.declared.entrance.Entrance.{Entrance}
use Rattle.bl_entrance.specs.declared.entrance.Entrance.TheVariants as opened
use Rattle.bl_setup.specs.Setup.{Setup}
use Rattle.bl_options.specs.declared.hosting.NamedEntrance.{NamedEntrance}
use Rattle.bl_options.specs.declared.hosting.NamedEntrance.TheVariants as asked
use Rattle.bl_status.specs.Named.{unnamed}
use Rattle.bl_status.specs.Runs.{HasToldNamed}
use Rattle.bl_status.specs.declared.fault.ProgramFault.{ProgramFault}
use Rattle.bl_status.specs.declared.fault.ProgramFault.TheVariants.{CannotListen}
use Rattle.bl_system.specs.Doors as doors
use Rattle.bl_system.specs.declared.enter.EntranceFault.{EntranceFault}
use Rattle.bl_status.specs.declared.named.About.{About}
use Rattle.bl_status.specs.declared.named.About.TheVariants.{Nothing, Port}
use Rattle.bl_system.specs.declared.enter.EntranceFault.TheVariants.{Program, Doors, Log}

-- the status is this one, and this line alone was said, unless standard error failed
pub record HasSaid (line : List ℕ) (own status : ℕ) (errors : Use) : Type 0 where
  pub status_is : status ≡ own
  pub said : errors.failed ≡ false → Appends errors.before errors.after line

-- why a setup that was read is none is told as it is, about nothing; one that is a setup has no fault
abbrev pub IsOfNone : Result Setup ProgramFault → EntranceFault → Type 0
IsOfNone (Ok setup) told = ⊥
IsOfNone (Err fault) told = told ≡ Program (unnamed fault)

-- a port is listened on where one was named, whatever was read; or the doors are open that were named, of the subjects
-- of the setup that was read
abbrev pub IsEntranceOf : NamedEntrance → Result Setup ProgramFault → Entrance → Type 0
IsEntranceOf (asked.Port port) read (opened.Port listener) = Unit {0}
IsEntranceOf (asked.Doors folder) (Ok setup) (opened.Doors doors) = AreDoors setup.names folder.now doors
IsEntranceOf _ _ _ = ⊥

-- what a fault is to who was to listen at this port, and what it is about
abbrev pub about_at_port : ProgramFault → ℕ → About
about_at_port CannotListen port = Port port
about_at_port fault port = Nothing

abbrev pub fault_at_port : ProgramFault → ℕ → EntranceFault
fault_at_port fault port = Program (record { fault = fault; about = about_at_port fault port })

-- the status is that of this fault, which alone was said, and behind it at which port or door that was
abbrev pub HasToldEntrance : EntranceFault → ℕ → Use → Type 0
HasToldEntrance (Program named) status errors = HasToldNamed named status errors
HasToldEntrance (Doors fault) status errors = HasSaid (doors.fault_text fault) (doors.status_by fault) status errors
HasToldEntrance (Log fault) status errors = HasSaid (logs.fault_line fault) (logs.status_of fault) status errors

-- own choice: the words of a log for how a run ended that has this status
abbrev pub end_words : ℕ → List ℕ
end_words status =
    if nat_eq status 0 then codes "done" else (if nat_eq status 4 then codes "no memory" else codes "fault")
