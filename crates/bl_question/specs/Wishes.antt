-- Why a text says no level, and words ask for no work, as the run is told it.
use Rattle.std.specs.Prelude.{◌≡◌, ℕ, List}
use Rattle.bl_level.specs.Level.{SecurityLevel}
use Rattle.bl_work.specs.declared.asked.LineFault.{LineFault}
use Rattle.bl_work.specs.declared.asked.LineFault.TheVariants.{Long, Syntax, Deep, Many, Unknown, Twice, Mode, Memory}
use Rattle.bl_work.specs.Names.{KnownNames}
use Rattle.bl_status.specs.declared.fault.ProgramFault.TheVariants.{NoMemory}
use Rattle.bl_question.specs.Asked.{IsUnsaid, fault_in}
use Rattle.bl_question.specs.declared.fault.ExplainFault.{ExplainFault}
use Rattle.bl_question.specs.declared.fault.ExplainFault.TheVariants.{NoSubject, NoLevel, Unsaid, Program}

-- of no level this holds, or a growth was refused
abbrev pub HasNoLevel : (SecurityLevel → Type 0) → ExplainFault → Type 0
HasNoLevel Says NoSubject = ⊥
HasNoLevel Says NoLevel = (level : SecurityLevel) → Says level → ⊥
HasNoLevel Says (Unsaid fault) = ⊥
HasNoLevel Says (Program fault) = fault ≡ NoMemory

-- the words ask for no work, or a growth was refused
abbrev pub HasNoWish : KnownNames → List ℕ → ExplainFault → Type 0
HasNoWish names text NoSubject = ⊥
HasNoWish names text NoLevel = ⊥
HasNoWish names text (Unsaid fault) = IsUnsaid names text fault
HasNoWish names text (Program fault) = fault ≡ NoMemory

-- the fault of the words, by that of their line
abbrev pub unsaid : List ℕ → LineFault → ExplainFault
unsaid text Long = Unsaid (fault_in text Long)
unsaid text (Syntax byte) = Unsaid (fault_in text (Syntax byte))
unsaid text Deep = Unsaid (fault_in text Deep)
unsaid text Many = Unsaid (fault_in text Many)
unsaid text (Unknown name) = Unsaid (fault_in text (Unknown name))
unsaid text (Twice name) = Unsaid (fault_in text (Twice name))
unsaid text (Mode name) = Unsaid (fault_in text (Mode name))
unsaid text Memory = Program NoMemory
