-- What is told of a journal's file that cannot be made.
use Rattle.bl_file.specs.declared.open.OpenFault.{OpenFault}
use Rattle.bl_file.specs.declared.open.OpenFault.TheVariants as opening
use Rattle.bl_status.specs.declared.fault.ProgramFault.{ProgramFault}
use Rattle.bl_status.specs.declared.fault.ProgramFault.TheVariants.{CannotWriteTrail, InUse, NoMemory, TrailIsThere}

abbrev pub make_fault : OpenFault → ProgramFault
make_fault opening.Taken = TrailIsThere
make_fault opening.InUse = InUse
make_fault opening.Memory = NoMemory
make_fault opening.Missing = CannotWriteTrail
make_fault opening.Refused = CannotWriteTrail

-- and of one that stands under its name, and that no journal is begun in
abbrev pub torn_fault : OpenFault → ProgramFault
torn_fault opening.InUse = InUse
torn_fault opening.Memory = NoMemory
torn_fault opening.Taken = TrailIsThere
torn_fault opening.Missing = TrailIsThere
torn_fault opening.Refused = TrailIsThere
