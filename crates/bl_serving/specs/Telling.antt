-- What a run of `serve` whose trail is kept as it goes says on standard error of its trail.
use Rattle.std.specs.Prelude.{ℕ, List, [], ◌++◌, Option, Some, None}
use Rattle.bl_record.specs.declared.fault.JournalFault.{JournalFault}
use Rattle.bl_record.specs.declared.fault.JournalFault.TheVariants as keeping
use Rattle.bl_status.specs.Message.{fault_line}
use Rattle.bl_status.specs.Places.{trail_line}
use Rattle.bl_status.specs.declared.fault.ProgramFault.{ProgramFault}
use Rattle.bl_status.specs.declared.fault.ProgramFault.TheVariants.{CutShort, NoMemory}

-- what is said of a fault of a run over the journal in the file of this name: behind the words for a trail that cannot be
-- read or written also that it is this file
abbrev pub words_at : List ℕ → ProgramFault → List ℕ
words_at name fault = fault_line fault ++ trail_line name fault

-- what it is to the run that the journal did not keep what happened last
abbrev pub end_fault : JournalFault → ProgramFault
end_fault keeping.Memory = NoMemory
end_fault (keeping.Device error) = CutShort

-- what is said of the fault of a trail, where it has one
abbrev pub trail_text : Option ProgramFault → List ℕ
trail_text (Some fault) = fault_line fault
trail_text None = []
