-- What a run of `state` says of the fault that ends it, and the status that it ends with.
use Rattle.std.specs.Prelude.{ℕ, List, ◌++◌, codes, decimal}
use Rattle.bl_status.specs.Message.{fault_line}
use Rattle.bl_status.specs.Status.{status_of}
use Rattle.bl_standing.specs.declared.fault.StateFault.{StateFault}
use Rattle.bl_standing.specs.declared.fault.StateFault.TheVariants.{Rejected, OldVersion, NotEnded, TooLarge, Program}

-- a number between two texts
abbrev pub counted_line : List ℕ → ℕ → List ℕ → List ℕ
counted_line before number after = before ++ (decimal number ++ after)

-- own choice: what is said of each fault, on a line of its own; a trail that is rejected has the words of its verdict
abbrev pub fault_text : StateFault → List ℕ
fault_text (Rejected number) = counted_line (codes "rejected ") number (codes "\n")
fault_text OldVersion = codes "trail of version 1\n"
fault_text NotEnded = codes "not ended\n"
fault_text (TooLarge bytes) = counted_line (codes "setup too large: ") bytes (codes " bytes\n")
fault_text (Program fault) = fault_line fault

-- 1 for a trail that is rejected, 4 when out of memory, and 3 for anything else
abbrev pub status_by : StateFault → ℕ
status_by (Rejected number) = 1
status_by OldVersion = 3
status_by NotEnded = 3
status_by (TooLarge bytes) = 3
status_by (Program fault) = status_of fault
