-- How the cells of a policy are kept: a row of them for each subject, one row after another, with a cell for each document that there may be.
use Rattle.std.specs.Prelude.{◌≡◌, ◌≢◌, ◌⊎◌, ℕ, Bool, suc, ◌+◌, ◌*◌, ◌/◌, ◌%◌, ◌<◌, ◌≤◌, List, [], ◌∷◌, length, map, slice_index_or, Option, Some, None, ◌||◌, cond, if◌then◌else◌}
use Rattle.bl_level.specs.Level.{SecurityLevel}
use Rattle.bl_policy.specs.declared.access.Mode.{Mode}
use Rattle.bl_policy.specs.declared.access.Mode.TheVariants.{Read, Append, Write}
use Rattle.bl_policy.specs.declared.access.ModeSet.{ModeSet}
use Rattle.bl_policy.specs.declared.denial.Clause.{Clause}
use Rattle.bl_policy.specs.declared.denial.Clause.TheVariants as clause
use Rattle.bl_policy.specs.declared.policy.Subject.{Subject}
use Rattle.bl_policy.specs.declared.policy.cell.Cell.{Cell}
use Rattle.bl_policy.specs.declared.policy.cell.Failed.{Failed}
use Rattle.bl_policy.specs.declared.policy.cell.Failures.{Failures}
use Rattle.bl_policy.specs.declared.policy.cell.Failed.TheVariants.{Nothing, Simple, Star, Discretionary}
use Rattle.bl_policy.specs.Limits.{most_documents}
use Rattle.bl_policy.specs.Mode.{has_mode}
use Rattle.bl_policy.specs.Matrix.{Matrix, no_triple, put_modes}
use Rattle.bl_policy.specs.Policy.{Clearance, nobody, lowest}
use Rattle.bl_policy.specs.Properties.{observes, flows}

-- what the fields of a subject stand for
abbrev pub clearance_from : Subject → Clearance
clearance_from s = record { greatest = s.greatest; current = s.current; trusted = s.trusted; admin = s.admin }

-- ---- the modes of cells

-- the modes of each cell
abbrev pub modes_of : List Cell → List ModeSet
modes_of cells = map (λ cell. cell.modes) cells

-- the triples of the cells from place k on
abbrev pub matrix_from : ℕ → List ModeSet → Matrix
matrix_from k [] = no_triple
matrix_from k (modes ∷ rest) = put_modes (matrix_from (suc k) rest) (k / most_documents) (k % most_documents) modes

-- the triples of all the cells
abbrev pub matrix_of : List ModeSet → Matrix
matrix_of cells = matrix_from 0 cells

-- ---- the first property that fails

-- the first property that does not hold, in the order simple, star, discretionary
abbrev pub first_failed : Bool → Bool → Bool → Failed
first_failed simple star discretionary = if simple then (if star then (if discretionary then Nothing else Discretionary) else Star) else Simple

-- the first property that an access fails, by the clearance of its subject, the level of its document, the modes that the matrix has, and its mode
abbrev pub failed_property : Clearance → SecurityLevel → ModeSet → Mode → Failed
failed_property subject level modes m = first_failed (observes subject.greatest level m) (subject.trusted || flows subject.current level m) (has_mode modes m)

-- the property as a refusal names it
abbrev pub clause_of : Failed → Option Clause
clause_of Nothing = None
clause_of Simple = Some clause.Simple
clause_of Star = Some clause.Star
clause_of Discretionary = Some clause.Discretionary

-- what a cell has of a mode
abbrev pub failed_in : Cell → Mode → Failed
failed_in cell Read = cell.read
failed_in cell Append = cell.append
failed_in cell Write = cell.write

-- the cell that has of each mode the first property that fails
abbrev pub cell_of : Clearance → SecurityLevel → ModeSet → Cell
cell_of subject level modes =
    record {
      modes = modes;
      read = failed_property subject level modes Read;
      append = failed_property subject level modes Append;
      write = failed_property subject level modes Write;
    }

-- the place of a set of modes among all of them
abbrev pub place_of_modes : ModeSet → ℕ
place_of_modes modes = cond (has_mode modes Read) 1 0 + 2 * cond (has_mode modes Append) 1 0 + 4 * cond (has_mode modes Write) 1 0

-- what stands for failures that are not there
abbrev pub no_failures : Failures
no_failures = record { read = Discretionary; append = Discretionary; write = Discretionary }

-- the cell of these modes, by what the modes fail at the place of each set
abbrev pub cell_from : List Failures → ModeSet → Cell
cell_from failures modes =
    let failed = slice_index_or failures (place_of_modes modes) no_failures in
    record { modes = modes; read = failed.read; append = failed.append; write = failed.write }

-- these are what the modes fail, whatever modes the matrix has
abbrev pub AreFailuresOf : Clearance → SecurityLevel → List Failures → Type 0
AreFailuresOf subject level failures = (modes : ModeSet) → cell_from failures modes ≡ cell_of subject level modes

-- what stands for the cell of a subject and a document that is not there
abbrev pub no_cell : Cell
no_cell = record { modes = record { 0 = 0 }; read = Discretionary; append = Discretionary; write = Discretionary }

-- the cell at place k
abbrev pub cell_at : List Cell → ℕ → Cell
cell_at cells k = slice_index_or cells k no_cell

-- the cell has of each mode the first property that fails, by the modes that it has
abbrev pub IsCellOf : Clearance → SecurityLevel → Cell → Type 0
IsCellOf subject level cell = cell ≡ cell_of subject level cell.modes

-- the cell of each subject and document that there are has of each mode the first property that fails
abbrev pub HaveFirstFailed : List Clearance → List SecurityLevel → List Cell → Type 0
HaveFirstFailed subjects levels cells = (s o : ℕ) → s < length subjects → o < length levels
    → IsCellOf (slice_index_or subjects s nobody) (slice_index_or levels o lowest) (cell_at cells (s * most_documents + o))

-- ---- cells that are mended

-- the cells of a subject and the documents of these levels have been mended, from the first of them on, and no other has changed
pub record HasMendedRow (first : ℕ) (subject : Clearance) (levels : List SecurityLevel) (old new : List Cell) : Type 0 where
  pub mended : (o : ℕ) → o < length levels → cell_at new (first + o) ≡ cell_of subject (slice_index_or levels o lowest) (cell_at old (first + o)).modes
  pub others : (k : ℕ) → (k < first) ⊎ (first + length levels ≤ k) → cell_at new k ≡ cell_at old k

-- the cells of these subjects and a document of this level have been mended, and no other has changed
pub record HasMendedColumn (column : ℕ) (subjects : List Clearance) (level : SecurityLevel) (old new : List Cell) : Type 0 where
  pub mended : (s : ℕ) → s < length subjects
      → cell_at new (s * most_documents + column) ≡ cell_of (slice_index_or subjects s nobody) level (cell_at old (s * most_documents + column)).modes
  pub others : (s o : ℕ) → o < most_documents → o ≢ column → cell_at new (s * most_documents + o) ≡ cell_at old (s * most_documents + o)

-- the cells of these subjects and a document of this level have no modes, and no other has changed
pub record HasEmptiedColumn (column : ℕ) (subjects : List Clearance) (level : SecurityLevel) (old new : List Cell) : Type 0 where
  pub emptied : (s : ℕ) → s < length subjects
      → cell_at new (s * most_documents + column) ≡ cell_of (slice_index_or subjects s nobody) level (record { 0 = 0 })
  pub others : (s o : ℕ) → o < most_documents → o ≢ column → cell_at new (s * most_documents + o) ≡ cell_at old (s * most_documents + o)
  pub as_many : length new ≡ length old
