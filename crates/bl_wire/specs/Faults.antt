-- Which end a fault is of.
use Rattle.std.specs.Prelude.{Bool, true, false}
use Rattle.bl_wire.specs.declared.fault.SessionFault.{SessionFault}
use Rattle.bl_wire.specs.declared.fault.SessionFault.TheVariants.{Read, Write, TooLong, Memory, Clash}

-- the writer failed
abbrev pub is_write : SessionFault → Bool
is_write Read = false
is_write Write = true
is_write TooLong = false
is_write Memory = false
is_write Clash = false

-- the reader failed
abbrev pub is_read : SessionFault → Bool
is_read Read = true
is_read Write = false
is_read TooLong = false
is_read Memory = false
is_read Clash = false
