-- The first fault of the text of a setup file: the line at fault, and what is wrong with it.
use Rattle.std.specs.Prelude.{◌≡◌, ◌⊎◌, ℕ, suc, ◌+◌, ◌<◌, ◌≤◌, true, false, List, [], ◌∷◌, ◌++◌, length, Contains}
use Rattle.bl_level.specs.Level.{SecurityLevel, Dominates}
use Rattle.bl_level.specs.Lexing.{Begins}
use Rattle.bl_level.specs.LevelText.{LevelText, Means}
use Rattle.bl_level.specs.Scheme.{SchemeNames}
use Rattle.bl_policy.specs.Limits.{most_subjects, most_documents}
use Rattle.bl_work.specs.Content.{most_bytes}
use Rattle.bl_setup.specs.Agreement.{of_scheme}
use Rattle.bl_declare.specs.Declaration.{Declaration, declared_content, ranks, categories, subject, document, allow, spell_declaration}
use Rattle.bl_setup.specs.Grammar.{LineAdds, IsSetupWithin, most_setup_bytes}
use Rattle.bl_setup.specs.Heads.{DeclaresRanks, DeclaresCategories}
use Rattle.bl_setup.specs.Lines.{is_skipped, file_lines}
use Rattle.bl_setup.specs.Setup.{Setup}
use Rattle.bl_declare.specs.declared.fault.SetupFault.{SetupFault}
use Rattle.bl_declare.specs.declared.fault.SetupFaultKind.{SetupFaultKind}
use Rattle.bl_declare.specs.declared.fault.SetupFaultKind.TheVariants.{Syntax, Unknown, Repeated, CurrentAboveGreatest, TooMany}

-- what the lines so far have declared: nothing, the ranks alone, or a setup
pub data SoFar : Type 0 where
  nothing : SoFar
  ranked : (names : List (List ℕ)) → SoFar
  declared : (setup : Setup) → SoFar

-- own choice: the ranks are due first, then the categories, and then any of the others
abbrev pub IsDue : SoFar → Declaration → Type 0
IsDue nothing (ranks lowest higher) = Unit {0}
IsDue (ranked names) (categories words) = Unit {0}
IsDue (declared setup) (subject s) = Unit {0}
IsDue (declared setup) (document d) = Unit {0}
IsDue (declared setup) (allow a) = Unit {0}
IsDue _ _ = ⊥

-- a line that is right declares what is due, and so more is declared behind it
abbrev pub Declares : SoFar → List ℕ → SoFar → Type 0
Declares nothing line after = (names : List (List ℕ)) × DeclaresRanks line names × (after ≡ ranked names)
Declares (ranked names) line after = (scheme : SchemeNames) × DeclaresCategories line names scheme × (after ≡ declared (of_scheme scheme))
Declares (declared setup) line after = (next : Setup) × LineAdds setup line next × (after ≡ declared next)

-- a line that is skipped changes nothing; each other one is right
abbrev pub Passes : SoFar → List ℕ → SoFar → Type 0
Passes before line after = ((is_skipped line ≡ true) × (after ≡ before)) ⊎ ((is_skipped line ≡ false) × Declares before line after)

-- one line after the other
abbrev pub LeadTo : SoFar → List (List ℕ) → SoFar → Type 0
LeadTo before [] after = after ≡ before
LeadTo before (line ∷ lines) after = (next : SoFar) × Passes before line next × LeadTo next lines after

-- what is asked of a word: that its name is not among some others, or that it is among those that are known
pub data Question : Type 0 where
  is_new : (others : List (List ℕ)) → (name : List ℕ) → Question
  is_known : (known : List (List ℕ)) → (name : List ℕ) → Question

abbrev pub IsSo : Question → Type 0
IsSo (is_new others name) = Contains others name → ⊥
IsSo (is_known known name) = Contains known name

-- `Repeated` where a name is not new, `Unknown` where it is not there
abbrev pub kind_of : Question → SetupFaultKind
kind_of (is_new others name) = Repeated
kind_of (is_known known name) = Unknown

abbrev pub AllHold : List Question → Type 0
AllHold [] = Unit {0}
AllHold (q ∷ qs) = IsSo q × AllHold qs

-- the first of these that does not hold is of this kind
abbrev pub FirstFails : List Question → SetupFaultKind → Type 0
FirstFails [] kind = ⊥
FirstFails (q ∷ qs) kind = ((kind ≡ kind_of q) × (IsSo q → ⊥)) ⊎ (IsSo q × FirstFails qs kind)

-- each name, from the left, is not among those before it
abbrev pub asked_of_names : List (List ℕ) → List (List ℕ) → List Question
asked_of_names before [] = []
asked_of_names before (name ∷ names) = is_new before name ∷ asked_of_names (before ++ name ∷ []) names

-- each category, from the left, is the scheme's, and not among those before it in its level
abbrev pub asked_of_categories : SchemeNames → List (List ℕ) → List (List ℕ) → List Question
asked_of_categories scheme before [] = []
asked_of_categories scheme before (name ∷ names) =
    is_known scheme.categories name ∷ is_new before name ∷ asked_of_categories scheme (before ++ name ∷ []) names

-- a level's rank is the scheme's, and then its categories
abbrev pub asked_of_level : SchemeNames → LevelText → List Question
asked_of_level scheme l = is_known scheme.ranks l.rank ∷ asked_of_categories scheme [] l.categories

-- what is asked of the words of a declaration, from the left
abbrev pub asked : SoFar → Declaration → List Question
asked nothing (ranks lowest higher) = asked_of_names [] (lowest ∷ higher)
asked (ranked names) (categories words) = asked_of_names [] words
asked (declared setup) (subject s) =
    is_new setup.names.subjects s.name ∷ (asked_of_level setup.names.scheme s.greatest ++ asked_of_level setup.names.scheme s.current)
asked (declared setup) (document d) = is_new setup.names.documents d.name ∷ asked_of_level setup.names.scheme d.level
asked (declared setup) (allow a) = is_known setup.names.subjects a.subject ∷ is_known setup.names.documents a.document ∷ []
asked _ _ = []

-- with this declaration there are more names than there may be, or its content is too long
abbrev pub IsTooMuch : SoFar → Declaration → Type 0
IsTooMuch nothing (ranks lowest higher) = 16 < length (lowest ∷ higher)
IsTooMuch (ranked names) (categories words) = 32 < length words
IsTooMuch (declared setup) (subject s) = most_subjects < suc (length setup.names.subjects)
IsTooMuch (declared setup) (document d) = (most_documents < suc (length setup.names.documents)) ⊎ (most_bytes < length (declared_content d))
IsTooMuch _ _ = ⊥

-- the subject's levels are the scheme's, and the greatest does not dominate the current one
abbrev pub IsAbove : SoFar → Declaration → Type 0
IsAbove (declared setup) (subject s) = (greatest : SecurityLevel) × (current : SecurityLevel)
    × Means setup.names.scheme s.greatest greatest × Means setup.names.scheme s.current current × (Dominates greatest current → ⊥)
IsAbove _ _ = ⊥

-- Own choice: what is wrong with a declaration that is due. It is asked first whether it is too much, then word for word from
-- the left, and then whether the greatest level dominates the current one.
abbrev pub DeclarationFault : SoFar → Declaration → SetupFaultKind → Type 0
DeclarationFault before d kind =
    ((kind ≡ TooMany) × IsTooMuch before d)
    ⊎ ((IsTooMuch before d → ⊥)
    × (FirstFails (asked before d) kind ⊎ (AllHold (asked before d) × (kind ≡ CurrentAboveGreatest) × IsAbove before d)))

-- What is wrong with a line: it spells no declaration that is due, or one with a fault.
abbrev pub LineFault : SoFar → List ℕ → SetupFaultKind → Type 0
LineFault before line kind =
    ((kind ≡ Syntax) × ((d : Declaration) → Begins line (spell_declaration d) [] → IsDue before d → ⊥))
    ⊎ ((d : Declaration) × Begins line (spell_declaration d) [] × IsDue before d × DeclarationFault before d kind)

-- the categories, and so the ranks too, were declared
abbrev pub IsBegun : SoFar → Type 0
IsBegun nothing = ⊥
IsBegun (ranked names) = ⊥
IsBegun (declared setup) = Unit {0}

-- what is wrong with the first line of those that are left; where none is left, the file ended before its categories
abbrev pub FaultNext : SetupFaultKind → SoFar → List (List ℕ) → Type 0
FaultNext kind before [] = (kind ≡ Syntax) × (IsBegun before → ⊥)
FaultNext kind before (line ∷ lines) = (is_skipped line ≡ false) × LineFault before line kind

-- the first line of those that are left is one that is read
abbrev pub ReadsNext : SoFar → List (List ℕ) → Type 0
ReadsNext before [] = ⊥
ReadsNext before (line ∷ lines) = is_skipped line ≡ false

-- behind `count` lines of a file, the next ones lead on, up to `number` lines of it, and the rest is left
pub record LeadOn (before : SoFar) (count : ℕ) (lines : List (List ℕ)) (after : SoFar) (number : ℕ) (rest : List (List ℕ)) : Type 0 where
  pub front : List (List ℕ)
  pub split : lines ≡ front ++ rest
  pub right : LeadTo before front after
  pub counted : number ≡ count + length front

-- The lines before this number are right, and this holds of what they declared and of the lines from this number on. Lines
-- count from 1, those that are skipped too.
pub record StopsAt (P : SoFar → List (List ℕ) → Type 0) (before : SoFar) (count : ℕ) (lines : List (List ℕ)) (number : ℕ) : Type 0 where
  pub after : SoFar
  pub taken : ℕ
  pub rest : List (List ℕ)
  pub right : LeadOn before count lines after taken rest
  pub holds : P after rest
  pub is : number ≡ suc taken

-- Own choice: a text of more than `most` bytes is at fault as line 0; otherwise the first line at fault is answered.
abbrev pub FirstSetupFaultWithin : ℕ → List ℕ → SetupFault → Type 0
FirstSetupFaultWithin most bytes fault =
    ((most < length bytes) × (fault.line ≡ 0) × (fault.kind ≡ TooMany))
    ⊎ ((length bytes ≤ most) × StopsAt (FaultNext fault.kind) nothing 0 (file_lines bytes) fault.line)

-- the first fault of the text of a setup file
abbrev pub FirstSetupFault : List ℕ → SetupFault → Type 0
FirstSetupFault bytes fault = FirstSetupFaultWithin most_setup_bytes bytes fault

-- the text has at most `most` bytes, the number is that of a line that is read, and the lines before it are right
abbrev pub IsReadWithin : ℕ → List ℕ → ℕ → Type 0
IsReadWithin most bytes number = (length bytes ≤ most) × StopsAt ReadsNext nothing 0 (file_lines bytes) number

-- so it is in the text of a setup file
abbrev pub IsReadAt : List ℕ → ℕ → Type 0
IsReadAt bytes number = IsReadWithin most_setup_bytes bytes number

-- A text has at most one answer: no two setups, no two faults, and not both.
pub record HasOneAnswer (most : ℕ) (bytes : List ℕ) : Type 0 where
  pub setups : (setup other : Setup) → IsSetupWithin most bytes setup → IsSetupWithin most bytes other → other ≡ setup
  pub faults : (fault other : SetupFault) → FirstSetupFaultWithin most bytes fault → FirstSetupFaultWithin most bytes other
      → other ≡ fault
  pub never_both : (setup : Setup) (fault : SetupFault) → IsSetupWithin most bytes setup
      → FirstSetupFaultWithin most bytes fault → ⊥
