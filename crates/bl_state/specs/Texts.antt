-- The text of a setup: the canonical text of its declarations, a line for each.
use Rattle.std.specs.Prelude.{ℕ, suc, Bool, if◌then◌else◌, List, [], ◌∷◌, ◌++◌, map, Some, None}
use Rattle.std.specs.List.{flat_map}
use Rattle.bl_level.specs.Canonical.{canonical}
use Rattle.bl_level.specs.Level.{SecurityLevel}
use Rattle.bl_level.specs.LevelText.{text_of}
use Rattle.bl_level.specs.Scheme.{SchemeNames}
use Rattle.bl_policy.specs.declared.access.Mode.{Mode}
use Rattle.bl_policy.specs.declared.access.Mode.TheVariants.{Read, Append, Write}
use Rattle.bl_policy.specs.Matrix.{Matrix, triple, is_in}
use Rattle.bl_policy.specs.Policy.{Clearance}
use Rattle.bl_declare.specs.Declaration.{Declaration, SubjectText, DocumentText, ranks, categories, subject, document, allow, spell_declaration}
use Rattle.bl_setup.specs.Setup.{Setup}

-- own choice: the text of a setup has no more bytes than this, however much was changed in a run; a setup file that is handed in has
-- far fewer
abbrev pub most_text_bytes : ℕ
most_text_bytes = 134217728

-- a declaration as a line, without its LF
abbrev pub line_text : Declaration → List ℕ
line_text d = canonical (spell_declaration d)

-- lines as a text: each has an LF
abbrev pub joined : List (List ℕ) → List ℕ
joined lines = flat_map (λ line. line ++ 10 ∷ []) lines

abbrev pub text_of_lines : List Declaration → List ℕ
text_of_lines ds = joined (map line_text ds)

abbrev pub subject_text_of : SchemeNames → List ℕ → Clearance → SubjectText
subject_text_of scheme name c = record {
  name = name;
  greatest = text_of scheme c.greatest;
  current = text_of scheme c.current;
  trusted = c.trusted;
  admin = c.admin;
}

-- a document that is not present has no content in its line
abbrev pub document_text_of : SchemeNames → List ℕ → SecurityLevel → Bool → List ℕ → DocumentText
document_text_of scheme name level present content =
    record { name = name; level = text_of scheme level; content = if present then Some content else None }

-- a line for each subject
abbrev pub subject_lines : SchemeNames → List (List ℕ) → List Clearance → List Declaration
subject_lines scheme [] cs = []
subject_lines scheme (n ∷ ns) [] = []
subject_lines scheme (n ∷ ns) (c ∷ cs) = subject (subject_text_of scheme n c) ∷ subject_lines scheme ns cs

-- a line for each document
abbrev pub document_lines : SchemeNames → List (List ℕ) → List SecurityLevel → List Bool → List (List ℕ) → List Declaration
document_lines scheme [] ls ps xs = []
document_lines scheme (n ∷ ns) [] ps xs = []
document_lines scheme (n ∷ ns) (l ∷ ls) [] xs = []
document_lines scheme (n ∷ ns) (l ∷ ls) (p ∷ ps) [] = []
document_lines scheme (n ∷ ns) (l ∷ ls) (p ∷ ps) (x ∷ xs) =
    document (document_text_of scheme n l p x) ∷ document_lines scheme ns ls ps xs

-- the mode, where it is there
abbrev pub mode_where : Bool → Mode → List Mode
mode_where there mode = if there then mode ∷ [] else []

-- those of the three modes that are there
abbrev pub modes_where : (read append write : Bool) → List Mode
modes_where read append write = mode_where read Read ++ (mode_where append Append ++ mode_where write Write)

-- the modes of a cell
abbrev pub modes_at : Matrix → ℕ → ℕ → List Mode
modes_at m s o = modes_where (is_in m (triple s o Read)) (is_in m (triple s o Append)) (is_in m (triple s o Write))

-- a line for a cell that is not empty
abbrev pub allow_lines : List ℕ → List ℕ → List Mode → List Declaration
allow_lines whose called [] = []
allow_lines whose called (mode ∷ modes) =
    allow (record { subject = whose; document = called; mode = mode; modes = modes }) ∷ []

-- those of a subject, from a document on
abbrev pub row_lines : Matrix → ℕ → List ℕ → ℕ → List (List ℕ) → List Declaration
row_lines m s whose o [] = []
row_lines m s whose o (d ∷ ds) = allow_lines whose d (modes_at m s o) ++ row_lines m s whose (suc o) ds

-- those of all subjects from one on
abbrev pub cell_lines : Matrix → List (List ℕ) → ℕ → List (List ℕ) → List Declaration
cell_lines m documents s [] = []
cell_lines m documents s (n ∷ ns) = row_lines m s n 0 documents ++ cell_lines m documents (suc s) ns

-- subjects, documents and cells
abbrev pub body_lines : Setup → List Declaration
body_lines setup =
    subject_lines setup.names.scheme setup.names.subjects setup.policy.subjects
    ++ (document_lines setup.names.scheme setup.names.documents setup.policy.documents setup.policy.present setup.contents
    ++ cell_lines setup.policy.matrix setup.names.documents 0 setup.names.subjects)

-- the line of the ranks, lowest first
abbrev pub rank_lines : List (List ℕ) → List Declaration
rank_lines [] = []
rank_lines (lowest ∷ higher) = ranks lowest higher ∷ []

-- the declarations of a setup
abbrev pub declarations_of : Setup → List Declaration
declarations_of setup = rank_lines setup.names.scheme.ranks ++ categories setup.names.scheme.categories ∷ body_lines setup

-- the text of a setup
abbrev pub setup_text : Setup → List ℕ
setup_text setup = text_of_lines (declarations_of setup)
