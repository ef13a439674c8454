-- What a fault is about.
use Rattle.std.specs.Prelude.{String}
use Rattle.std.specs.Global.{Global}
use Rattle.bl_status.specs.declared.fault.ProgramFault.{ProgramFault}
use Rattle.bl_status.specs.declared.fault.ProgramFault.TheVariants.{CannotReadTrail, CannotWriteTrail}
use Rattle.bl_status.specs.declared.named.About.{About}
use Rattle.bl_status.specs.declared.named.About.TheVariants.{Nothing, File}
use Rattle.bl_status.specs.declared.named.NamedFault.{NamedFault}

-- a fault that is about nothing
abbrev pub unnamed : ProgramFault → NamedFault
unnamed fault = record { fault = fault; about = Nothing }

-- a trail that cannot be read or written is that in the file of this name; any other fault is about nothing
abbrev pub about_at : ProgramFault → String Global → About
about_at CannotReadTrail name = File name
about_at CannotWriteTrail name = File name
about_at fault name = Nothing

abbrev pub fault_at : ProgramFault → String Global → NamedFault
fault_at fault name = record { fault = fault; about = about_at fault name }
