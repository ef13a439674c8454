-- What is said of a log on standard error.
use Rattle.std.specs.Prelude.{ℕ, List, codes}
use Rattle.bl_log.specs.declared.fault.LogFault.{LogFault}
use Rattle.bl_log.specs.declared.fault.LogFault.TheVariants.{CannotWrite, Memory}

-- own choice: the words for a fault, on a line of their own
abbrev pub fault_line : LogFault → List ℕ
fault_line CannotWrite = codes "cannot write log\n"
fault_line Memory = codes "no memory\n"

-- the status of a run that a fault ends: 4 when out of memory, and 3 for anything else
abbrev pub status_of : LogFault → ℕ
status_of CannotWrite = 3
status_of Memory = 4

-- own choice: what is said of a log that lacks lines
abbrev pub cut_line : List ℕ
cut_line = codes "log cut short\n"
