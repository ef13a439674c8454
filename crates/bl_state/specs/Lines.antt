-- The lines of a setup one by one, and what stands behind each.
use Rattle.std.specs.Prelude.{◌≡◌, ◌≢◌, ℕ, suc, ◌<◌, List, [], ◌∷◌, ◌++◌, drop, length, Option, Some, None, slice_index_or}
use Rattle.bl_policy.specs.declared.access.Mode.{Mode}
use Rattle.bl_policy.specs.declared.access.Mode.TheVariants.{Read}
use Rattle.bl_policy.specs.Policy.{clearance_of, is_present, level_of}
use Rattle.bl_declare.specs.Declaration as declared
use Rattle.bl_declare.specs.Declaration.{Declaration}
use Rattle.bl_setup.specs.Setup.{Setup}
use Rattle.bl_state.specs.declared.line.Line.{Line}
use Rattle.bl_state.specs.declared.line.Line.TheVariants.{Ranks, Categories, Subject, Document, Allow}
use Rattle.bl_state.specs.Texts.{cell_lines, document_lines, document_text_of, declarations_of, modes_at, row_lines, subject_lines, subject_text_of}

-- the line of these ranks, of which there is one at least
abbrev pub ranks_declared : List (List ℕ) → Declaration
ranks_declared [] = declared.ranks [] []
ranks_declared (lowest ∷ higher) = declared.ranks lowest higher

-- the line of a cell with these modes, of which there is one at least
abbrev pub modes_declared : List ℕ → List ℕ → List Mode → Declaration
modes_declared whose called [] = declared.allow (record { subject = whose; document = called; mode = Read; modes = [] })
modes_declared whose called (mode ∷ modes) =
    declared.allow (record { subject = whose; document = called; mode = mode; modes = modes })

-- the names of a subject and a document
abbrev pub subject_name : Setup → ℕ → List ℕ
subject_name setup s = slice_index_or setup.names.subjects s []

abbrev pub document_name : Setup → ℕ → List ℕ
document_name setup d = slice_index_or setup.names.documents d []

-- what a line declares
abbrev pub declared_by : Setup → Line → Declaration
declared_by setup Ranks = ranks_declared setup.names.scheme.ranks
declared_by setup Categories = declared.categories setup.names.scheme.categories
declared_by setup (Subject s) =
    declared.subject (subject_text_of setup.names.scheme (subject_name setup s) (clearance_of setup.policy s))
declared_by setup (Document d) = declared.document (document_text_of setup.names.scheme (document_name setup d)
    (level_of setup.policy d) (is_present setup.policy d) (slice_index_or setup.contents d []))
declared_by setup (Allow s d) =
    modes_declared (subject_name setup s) (document_name setup d) (modes_at setup.policy.matrix s d)

-- the line is one of the setup's
abbrev pub IsLineOf : Setup → Line → Type 0
IsLineOf setup Ranks = setup.names.scheme.ranks ≢ []
IsLineOf setup Categories = Unit {0}
IsLineOf setup (Subject s) = s < length setup.names.subjects
IsLineOf setup (Document d) = d < length setup.names.documents
IsLineOf setup (Allow s d) =
    (s < length setup.names.subjects) × (d < length setup.names.documents) × (modes_at setup.policy.matrix s d ≢ [])

-- the lines of a subject's cells from a document on, and those of all cells from a subject's on
abbrev pub row_from : Setup → ℕ → ℕ → List Declaration
row_from setup s d = row_lines setup.policy.matrix s (subject_name setup s) d (drop d setup.names.documents)

abbrev pub cells_from : Setup → ℕ → List Declaration
cells_from setup s = cell_lines setup.policy.matrix setup.names.documents s (drop s setup.names.subjects)

-- from a document's line on, and from a subject's
abbrev pub documents_from : Setup → ℕ → List Declaration
documents_from setup d =
    document_lines setup.names.scheme (drop d setup.names.documents) (drop d setup.policy.documents) (drop d setup.policy.present)
    (drop d setup.contents) ++ cells_from setup 0

abbrev pub subjects_from : Setup → ℕ → List Declaration
subjects_from setup s =
    subject_lines setup.names.scheme (drop s setup.names.subjects) (drop s setup.policy.subjects) ++ documents_from setup 0

-- the lines from one on
abbrev pub lines_from : Setup → Line → List Declaration
lines_from setup Ranks = declarations_of setup
lines_from setup Categories = declared.categories setup.names.scheme.categories ∷ subjects_from setup 0
lines_from setup (Subject s) = subjects_from setup s
lines_from setup (Document d) = documents_from setup d
lines_from setup (Allow s d) = row_from setup s d ++ cells_from setup (suc s)

-- those lines are left: they begin with this one, or there is none
abbrev pub AreLeft : Setup → List Declaration → Option Line → Type 0
AreLeft setup left None = left ≡ []
AreLeft setup left (Some line) = IsLineOf setup line × (left ≡ lines_from setup line)

-- behind a line stands the next one, or none
abbrev pub StandsBehind : Setup → Line → Option Line → Type 0
StandsBehind setup line next =
    (left : List Declaration) × (lines_from setup line ≡ declared_by setup line ∷ left) × AreLeft setup left next
