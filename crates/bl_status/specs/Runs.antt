-- What a run did, and that it told the fault that ended it.
use Rattle.std.specs.Prelude.{◌≡◌, ℕ, List, ◌++◌, false}
use Rattle.std.specs.Io.KnownBytes.{Appends}
use Rattle.bl_wire.specs.Watch.{Use}
use Rattle.bl_status.specs.declared.fault.ProgramFault.{ProgramFault}
use Rattle.bl_status.specs.declared.named.NamedFault.{NamedFault}
use Rattle.bl_status.specs.Message.{fault_line}
use Rattle.bl_status.specs.Places.{named_text, trail_line}
use Rattle.bl_status.specs.Status.{status_of}

-- the status of a run, and what it did to its input, its output and standard error
pub record Run : Type 0 where
  pub status : ℕ
  pub input : Use
  pub output : Use
  pub errors : Use

-- the status is that of this fault, which alone was said, unless standard error failed
pub record HasTold (fault : ProgramFault) (status : ℕ) (errors : Use) : Type 0 where
  pub status_is : status ≡ status_of fault
  pub said : errors.failed ≡ false → Appends errors.before errors.after (fault_line fault)

-- the same, and behind it, of a trail that cannot be read or written, that it is the file of this name
pub record HasToldAt (name : List ℕ) (fault : ProgramFault) (status : ℕ) (errors : Use) : Type 0 where
  pub status_is : status ≡ status_of fault
  pub said : errors.failed ≡ false → Appends errors.before errors.after (fault_line fault ++ trail_line name fault)

-- the status is that of this fault, and it alone was said, with what it is about
pub record HasToldNamed (named : NamedFault) (status : ℕ) (errors : Use) : Type 0 where
  pub status_is : status ≡ status_of named.fault
  pub said : errors.failed ≡ false → Appends errors.before errors.after (named_text named)
