-- The faults of a line. Each is asked of the whole line before the next.
use Rattle.std.specs.Prelude.{◌≡◌, ℕ, ◌<◌, ◌≤◌, List, length, Contains}
use Rattle.bl_work.specs.declared.asked.LineFault.{LineFault}
use Rattle.bl_work.specs.declared.asked.LineFault.TheVariants.{Long, Syntax, Deep, Many, Unknown, Twice, Mode, Memory}
use Rattle.bl_work.specs.Names.{KnownNames}
use Rattle.bl_work.specs.Grammar.{SpelledLine, hello, wait, when, rule}
use Rattle.bl_work.specs.Fault.{ReadsAs, SyntaxFault}
use Rattle.bl_work.specs.FirstWhenFault.{IsWhenFault}
use Rattle.bl_read.specs.RuleFaults.{IsFaultOfRule}
use Rattle.bl_work.specs.LineGrammar.{most_line_bytes}

-- a fault of what a line asks: of `hello`, that its subject is unknown; of a `when` or a rule, its first
abbrev pub IsFaultOf : KnownNames → SpelledLine → LineFault → Type 0
IsFaultOf names (hello name) fault = (fault ≡ Unknown name) × (Contains names.subjects name → ⊥)
IsFaultOf names wait fault = ⊥
IsFaultOf names (when first more body) fault = IsWhenFault names first more body fault
IsFaultOf names (rule asked) fault = IsFaultOfRule names asked fault

-- the bytes read as a line that has this fault
pub record HasFault (names : KnownNames) (bytes : List ℕ) (fault : LineFault) : Type 0 where
  pub short : length bytes ≤ most_line_bytes
  pub spelled : SpelledLine
  pub reads : ReadsAs bytes spelled
  pub fault_is : IsFaultOf names spelled fault

-- The fault of a line: it is too long; or it is not, and is spelled as no line; or it is spelled as one that has the
-- fault. Where memory runs out nothing is said.
abbrev pub IsLineFault : KnownNames → List ℕ → LineFault → Type 0
IsLineFault names bytes Long = most_line_bytes < length bytes
IsLineFault names bytes (Syntax place) = (length bytes ≤ most_line_bytes) × SyntaxFault bytes place
IsLineFault names bytes Deep = HasFault names bytes Deep
IsLineFault names bytes Many = HasFault names bytes Many
IsLineFault names bytes (Unknown name) = HasFault names bytes (Unknown name)
IsLineFault names bytes (Twice name) = HasFault names bytes (Twice name)
IsLineFault names bytes (Mode name) = HasFault names bytes (Mode name)
IsLineFault names bytes Memory = Unit {0}

abbrev pub IsWantOfMemory : LineFault → Type 0
IsWantOfMemory fault = fault ≡ Memory

-- out of memory, or a fault of what the line asks
abbrev pub IsFaultOrMemory : KnownNames → SpelledLine → LineFault → Type 0
IsFaultOrMemory names line Memory = Unit {0}
IsFaultOrMemory names line fault = IsFaultOf names line fault
