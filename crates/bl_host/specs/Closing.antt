-- When no further connection is taken.
use Rattle.std.specs.Prelude.{Option, Some, None}
use Rattle.bl_record.specs.declared.fault.JournalFault.{JournalFault}
use Rattle.bl_record.specs.declared.fault.JournalFault.TheVariants.{Device, Memory}

-- a write was refused since nothing more is kept: the device has failed
abbrev pub CanKeepNoMore : Option JournalFault → Type 0
CanKeepNoMore None = ⊥
CanKeepNoMore (Some Memory) = ⊥
CanKeepNoMore (Some (Device error)) = Unit {0}
