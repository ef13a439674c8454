-- How the reader takes lines, and where it stops.
use Rattle.std.specs.Prelude.{◌≡◌, ◌⊎◌, ℕ, suc, ◌+◌, true, false, List, [], ◌∷◌, ◌++◌, length}
use Rattle.bl_declare.specs.Declaration.{Declaration}
use Rattle.bl_setup.specs.FirstSetupFault.{SoFar, IsDue, DeclarationFault, FaultNext, ReadsNext}
use Rattle.bl_setup.specs.Lines.{is_skipped}
use Rattle.bl_declare.specs.declared.fault.SetupFault.{SetupFault}
use Rattle.bl_declare.specs.declared.fault.SetupFaultKind.{SetupFaultKind}
use Rattle.bl_declare.specs.declared.fault.SetupFaultKind.TheVariants.{Syntax, Memory}

-- each of these lines is skipped
abbrev pub AreSkipped : List (List ℕ) → Type 0
AreSkipped [] = Unit {0}
AreSkipped (line ∷ lines) = (is_skipped line ≡ true) × AreSkipped lines

-- behind `count` lines of a file, the next ones are skipped, up to `number` lines of it, and the rest is left
pub record Skips (count : ℕ) (lines : List (List ℕ)) (number : ℕ) (rest : List (List ℕ)) : Type 0 where
  pub front : List (List ℕ)
  pub split : lines ≡ front ++ rest
  pub skipped : AreSkipped front
  pub counted : number ≡ count + length front

-- this is the next line that is read, and the number is its own
pub record Takes (count : ℕ) (lines : List (List ℕ)) (line : List ℕ) (number : ℕ) (rest : List (List ℕ)) : Type 0 where
  pub before : ℕ
  pub skips : Skips count lines before (line ∷ rest)
  pub is_read : is_skipped line ≡ false
  pub is : number ≡ suc before

-- no line is read any more, and the fault stands behind the last one
pub record EndsEarly (count : ℕ) (lines : List (List ℕ)) (fault : SetupFault) : Type 0 where
  pub last : ℕ
  pub skips : Skips count lines last []
  pub kind : fault.kind ≡ Syntax
  pub line : fault.line ≡ suc last

-- out of memory in a line that is read, or the fault of the next line
abbrev pub Stops : SetupFaultKind → SoFar → List (List ℕ) → Type 0
Stops kind before rest = ((kind ≡ Memory) × ReadsNext before rest) ⊎ FaultNext kind before rest

-- the declaration is not due, or has a fault
abbrev pub Refuses : SoFar → Declaration → SetupFaultKind → Type 0
Refuses before d kind = ((kind ≡ Syntax) × (IsDue before d → ⊥)) ⊎ (IsDue before d × DeclarationFault before d kind)
