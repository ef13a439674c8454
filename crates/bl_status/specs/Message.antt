-- What a run says on standard error of the fault that ends it.
use Rattle.std.specs.Prelude.{ℕ, List, [], ◌∷◌, ◌++◌, codes, decimal}
use Rattle.bl_status.specs.declared.fault.ProgramFault.{ProgramFault}
use Rattle.bl_status.specs.declared.fault.ProgramFault.TheVariants.{CannotReadSetup, Setup, CannotReadTrail}
use Rattle.bl_status.specs.declared.fault.ProgramFault.TheVariants.{CannotWriteTrail, NoTrail, TrailIsThere, InUse}
use Rattle.bl_status.specs.declared.fault.ProgramFault.TheVariants.{OtherSetup, TornSetup, OldVersion, WrongAt, NotBegun}
use Rattle.bl_status.specs.declared.fault.ProgramFault.TheVariants.{Over, NoMoreSessions, NotKept, CutShort}
use Rattle.bl_status.specs.declared.fault.ProgramFault.TheVariants.{CannotListen, Read, Write, TooLong, NoMemory}

-- own choice: the words for each fault; of a setup those for what is wrong with its line
abbrev pub words_of : ProgramFault → List ℕ
words_of CannotReadSetup = codes "cannot read setup"
words_of (Setup line kind) = kind.now
words_of CannotReadTrail = codes "cannot read trail"
words_of CannotWriteTrail = codes "cannot write trail"
words_of NoTrail = codes "no trail to resume"
words_of TrailIsThere = codes "trail is there"
words_of InUse = codes "trail is in use"
words_of OtherSetup = codes "not this setup's trail"
words_of TornSetup = codes "trail's setup is torn"
words_of OldVersion = codes "trail of version 1"
words_of (WrongAt line) = codes "trail wrong"
words_of NotBegun = codes "trail not begun"
words_of Over = codes "trail is over"
words_of NoMoreSessions = codes "no more sessions"
words_of NotKept = codes "session 1: not kept"
words_of CutShort = codes "trail cut short"
words_of CannotListen = codes "cannot listen"
words_of Read = codes "read fault"
words_of Write = codes "write fault"
words_of TooLong = codes "too long"
words_of NoMemory = codes "no memory"

-- what is said: of a fault of the setup, and of a trail that is wrong, its line too
abbrev pub message_of : ProgramFault → List ℕ
message_of (Setup line kind) = codes "setup " ++ decimal line ++ codes ": " ++ kind.now
message_of (WrongAt line) = codes "trail wrong at line " ++ decimal line
message_of CannotReadSetup = words_of CannotReadSetup
message_of CannotReadTrail = words_of CannotReadTrail
message_of CannotWriteTrail = words_of CannotWriteTrail
message_of NoTrail = words_of NoTrail
message_of TrailIsThere = words_of TrailIsThere
message_of InUse = words_of InUse
message_of OtherSetup = words_of OtherSetup
message_of TornSetup = words_of TornSetup
message_of OldVersion = words_of OldVersion
message_of NotBegun = words_of NotBegun
message_of Over = words_of Over
message_of NoMoreSessions = words_of NoMoreSessions
message_of NotKept = words_of NotKept
message_of CutShort = words_of CutShort
message_of CannotListen = words_of CannotListen
message_of Read = words_of Read
message_of Write = words_of Write
message_of TooLong = words_of TooLong
message_of NoMemory = words_of NoMemory

-- what is said of a fault, on a line of its own
abbrev pub fault_line : ProgramFault → List ℕ
fault_line fault = message_of fault ++ 10 ∷ []
