-- What is asked, and how it is read.
use Rattle.std.specs.Prelude.{◌≡◌, ◌≢◌, ◌⊎◌, ◌-◌, ◌||◌, ℕ, Bool, List, [], ◌∷◌, ◌++◌, Contains, codes, fold, length, min, nat_eq, Option, Some, None, if◌then◌else◌}
use Rattle.std.specs.Borrow.{Bor}
use Rattle.std.specs.List.{starts_with}
use Rattle.bl_level.specs.Level.{SecurityLevel}
use Rattle.bl_policy.specs.Policy.{lowest}
use Rattle.bl_policy.specs.declared.rule.Rule.TheVariants.{Current}
use Rattle.bl_work.specs.declared.asked.Line.{Line}
use Rattle.bl_work.specs.declared.asked.Line.TheVariants as line
use Rattle.bl_work.specs.declared.asked.LineFault.{LineFault}
use Rattle.bl_work.specs.declared.asked.LineFault.TheVariants.{Long, Syntax, Deep, Many, Unknown, Twice, Mode, Memory}
use Rattle.bl_work.specs.declared.work.Work.{Work}
use Rattle.bl_work.specs.declared.work.Work.TheVariants as work
use Rattle.bl_work.specs.LineGrammar.{LineOf}
use Rattle.bl_work.specs.Names.{KnownNames}
use Rattle.bl_read.specs.LineFaults.{IsLineFault}
use Rattle.bl_status.specs.declared.fault.ProgramFault.TheVariants.{NoMemory}
use Rattle.bl_question.specs.declared.fault.ExplainFault.{ExplainFault}
use Rattle.bl_question.specs.declared.fault.ExplainFault.TheVariants.{NoSubject, NoLevel, Unsaid, Program}
use Rattle.bl_question.specs.declared.question.Question.{Question}

-- a text, and behind it a blank and a word
abbrev pub with_word : List ℕ → Bor (List ℕ) → List ℕ
with_word text word = (text ++ 32 ∷ []) ++ word.now

-- these words, each behind a blank
abbrev pub spaced : List (Bor (List ℕ)) → List ℕ
spaced words = fold with_word [] words

-- accesses begin with the word of a mode, and no rule does
abbrev pub names_access : List ℕ → Bool
names_access text =
    starts_with nat_eq text (codes " read") || (starts_with nat_eq text (codes " append") || starts_with nat_eq text (codes " write"))

-- own choice: accesses are asked as a `when` of an empty body declares them, and anything else as a line of its own
abbrev pub line_of : List ℕ → List ℕ
line_of text = if names_access text then (codes "when" ++ text) ++ codes " do end" else text

-- the work that is asked for by these words
abbrev pub IsWish : KnownNames → List ℕ → Work → Type 0
IsWish names text asked = LineOf names (line_of text) (line.Work asked)

-- the line asks for the level as the current one
abbrev pub AsksLevel : KnownNames → List ℕ → SecurityLevel → Type 0
AsksLevel names bytes level = LineOf names bytes (line.Work (work.Rule (Current level)))

-- own choice: the text of a level is read as the rule that asks for it as the current one
abbrev pub level_line : List ℕ → List ℕ
level_line text = codes "current " ++ text

abbrev pub IsLevelOf : KnownNames → List ℕ → SecurityLevel → Type 0
IsLevelOf names text level = AsksLevel names (level_line text) level

-- the level that is carried: the lowest one, where none is said
abbrev pub IsCarried : KnownNames → Option (Bor (List ℕ)) → SecurityLevel → Type 0
IsCarried names None level = level ≡ lowest
IsCarried names (Some text) level = IsLevelOf names text.now level

-- how many bytes of the line stand before the words, and the blank before the first of them
abbrev pub bytes_before : List ℕ → ℕ
bytes_before text = if names_access text then 5 else 1

-- the place in the words of a byte of the line; the end of them, where it is behind that
abbrev pub place_in : List ℕ → ℕ → ℕ
place_in text byte = min (byte - bytes_before text) (length text - 1)

-- the fault of the line, as one of the words
abbrev pub fault_in : List ℕ → LineFault → LineFault
fault_in text Long = Long
fault_in text (Syntax byte) = Syntax (place_in text byte)
fault_in text Deep = Deep
fault_in text Many = Many
fault_in text (Unknown name) = Unknown name
fault_in text (Twice name) = Twice name
fault_in text (Mode name) = Mode name
fault_in text Memory = Memory

-- the line asks no work: it greets, or waits
abbrev pub AsksNoWork : Line → Type 0
AsksNoWork (line.Hello subject) = Unit {0}
AsksNoWork line.Wait = Unit {0}
AsksNoWork (line.Work asked) = ⊥

-- why a line asks for no work: its fault, or that its first word begins neither accesses nor a rule
abbrev pub IsNoWork : KnownNames → List ℕ → LineFault → Type 0
IsNoWork names bytes fault =
    IsLineFault names bytes fault ⊎ ((asked : Line) × LineOf names bytes asked × AsksNoWork asked × (fault ≡ Syntax 0))

-- why the words do, as a fault of theirs
abbrev pub IsUnsaid : KnownNames → List ℕ → LineFault → Type 0
IsUnsaid names text fault = (of : LineFault) × (of ≢ Memory) × IsNoWork names (line_of text) of × (fault ≡ fault_in text of)

-- why nothing is explained; own choice: the subject is asked first, then the level, then what is asked for
abbrev pub IsUnasked : KnownNames → Question → ExplainFault → Type 0
IsUnasked names q NoSubject = Contains names.subjects q.subject.now → ⊥
IsUnasked names q NoLevel = Contains names.subjects q.subject.now × ((level : SecurityLevel) → IsCarried names q.carried level → ⊥)
IsUnasked names q (Unsaid fault) =
    Contains names.subjects q.subject.now × ((level : SecurityLevel) × IsCarried names q.carried level)
    × IsUnsaid names (spaced q.wish.now) fault
IsUnasked names q (Program fault) = fault ≡ NoMemory
