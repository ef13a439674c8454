-- Which line of a setup file made it so.
use Rattle.std.specs.Prelude.{◌≡◌, ◌<◌, ℕ, suc, List, [], ◌∷◌, Some, Contains, slice_get}
use Rattle.bl_level.specs.Lexing.{Begins}
use Rattle.bl_declare.specs.Declaration.{Declaration, subject, document, allow, spell_declaration}
use Rattle.bl_explain.specs.declared.setup_lines.Sought.{Sought}
use Rattle.bl_explain.specs.declared.setup_lines.Sought.TheVariants as sought

-- the declaration is of the subject or of the document of this name, or gives this right
abbrev pub IsSought : Sought → Declaration → Type 0
IsSought (sought.Subject name) (subject s) = s.name ≡ name.now
IsSought (sought.Document name) (document d) = d.name ≡ name.now
IsSought (sought.Right by of_it mode) (allow a) = (a.subject ≡ by.now) × (a.document ≡ of_it.now) × Contains (a.mode ∷ a.modes) mode
IsSought _ _ = ⊥

-- the line spells such a declaration
abbrev pub SpellsIt : Sought → List ℕ → Type 0
SpellsIt s line = (d : Declaration) × Begins line (spell_declaration d) [] × IsSought s d

-- the line of this number, counted from 1, is the first of which this holds
pub record IsLineFirst (P : List ℕ → Type 0) (lines : List (List ℕ)) (number : ℕ) : Type 0 where
  pub place : ℕ
  pub line : List ℕ
  pub counted : number ≡ suc place
  pub at : slice_get lines place ≡ Some line
  pub is : P line
  pub before : (k : ℕ) (earlier : List ℕ) → k < place → slice_get lines k ≡ Some earlier → ¬ P earlier

-- it holds of none of the lines
abbrev pub HoldsOfNone : (List ℕ → Type 0) → List (List ℕ) → Type 0
HoldsOfNone P lines = (k : ℕ) (line : List ℕ) → slice_get lines k ≡ Some line → ¬ P line
