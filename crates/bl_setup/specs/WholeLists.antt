-- A setup as a whole: what its text declares, in whole lists.
use Rattle.std.specs.Prelude.{◌≡◌, ◌↔◌, ℕ, List, [], ◌∷◌, map, Some, is_some, IsTrue, Contains}
use Rattle.bl_level.specs.Level.{SecurityLevel, Dominates}
use Rattle.bl_level.specs.Scheme.{SchemeNames}
use Rattle.bl_level.specs.LevelText.{Means}
use Rattle.bl_level.specs.Table.{place_of}
use Rattle.bl_policy.specs.declared.access.Mode.{Mode}
use Rattle.bl_policy.specs.Policy.{Clearance, allows}
use Rattle.bl_work.specs.Names.{KnownNames}
use Rattle.bl_setup.specs.Setup.{Setup}
use Rattle.bl_declare.specs.Declaration.{Declaration, SubjectText, DocumentText, declared_content, AllowText, ranks, categories, subject, document, allow}
use Rattle.bl_setup.specs.Grammar.{Spells}
use Rattle.bl_setup.specs.Lines.{lines_read}

-- the subjects that are declared, in order
abbrev pub subjects_of : List Declaration → List SubjectText
subjects_of [] = []
subjects_of (ranks lowest higher ∷ ds) = subjects_of ds
subjects_of (categories names ∷ ds) = subjects_of ds
subjects_of (subject s ∷ ds) = s ∷ subjects_of ds
subjects_of (document d ∷ ds) = subjects_of ds
subjects_of (allow a ∷ ds) = subjects_of ds

-- the documents that are declared, in order
abbrev pub documents_of : List Declaration → List DocumentText
documents_of [] = []
documents_of (ranks lowest higher ∷ ds) = documents_of ds
documents_of (categories names ∷ ds) = documents_of ds
documents_of (subject s ∷ ds) = documents_of ds
documents_of (document d ∷ ds) = d ∷ documents_of ds
documents_of (allow a ∷ ds) = documents_of ds

-- the `allow` lines, in order
abbrev pub rights_of : List Declaration → List AllowText
rights_of [] = []
rights_of (ranks lowest higher ∷ ds) = rights_of ds
rights_of (categories names ∷ ds) = rights_of ds
rights_of (subject s ∷ ds) = rights_of ds
rights_of (document d ∷ ds) = rights_of ds
rights_of (allow a ∷ ds) = a ∷ rights_of ds

-- the subject has the levels that its texts mean, and is trusted and an administrator where its line says so
pub record HasClearance (scheme : SchemeNames) (s : SubjectText) (c : Clearance) : Type 0 where
  pub greatest : Means scheme s.greatest c.greatest
  pub current : Means scheme s.current c.current
  pub dominates : Dominates c.greatest c.current
  pub trusted : c.trusted ≡ s.trusted
  pub admin : c.admin ≡ s.admin

-- so has each of these, in order
abbrev pub HaveClearances : SchemeNames → List SubjectText → List Clearance → Type 0
HaveClearances scheme [] cs = cs ≡ []
HaveClearances scheme (s ∷ ss) cs = (c : Clearance) × (rest : List Clearance) × (cs ≡ c ∷ rest) × HasClearance scheme s c × HaveClearances scheme ss rest

-- each document has the level that its text means, in order
abbrev pub HaveLevels : SchemeNames → List DocumentText → List SecurityLevel → Type 0
HaveLevels scheme [] ls = ls ≡ []
HaveLevels scheme (d ∷ ds) ls = (l : SecurityLevel) × (rest : List SecurityLevel) × (ls ≡ l ∷ rest) × Means scheme d.level l × HaveLevels scheme ds rest

-- some `allow` line names the subject, the document and the mode
pub record IsNamed (names : KnownNames) (lines : List AllowText) (subject document : ℕ) (mode : Mode) : Type 0 where
  pub line : AllowText
  pub there : Contains lines line
  pub subject_is : place_of line.subject names.subjects ≡ Some subject
  pub document_is : place_of line.document names.documents ≡ Some document
  pub mode_is : Contains (line.mode ∷ line.modes) mode

-- The setup is what the declarations of its text say: its subjects and documents are those declared, in order, with the
-- levels and contents of their lines; a document is present where its line has a content; and a subject may use a document
-- in a mode where some `allow` line names the three.
pub record IsDeclared (bytes : List ℕ) (setup : Setup) : Type 0 where
  pub declarations : List Declaration
  pub spelled : Spells (lines_read bytes) declarations
  pub subjects : setup.names.subjects ≡ map (λ s. s.name) (subjects_of declarations)
  pub documents : setup.names.documents ≡ map (λ d. d.name) (documents_of declarations)
  pub contents : setup.contents ≡ map declared_content (documents_of declarations)
  pub present : setup.policy.present ≡ map (λ d. is_some d.content) (documents_of declarations)
  pub clearances : HaveClearances setup.names.scheme (subjects_of declarations) setup.policy.subjects
  pub levels : HaveLevels setup.names.scheme (documents_of declarations) setup.policy.documents
  pub rights : (s d : ℕ) (mode : Mode) → IsTrue (allows setup.policy s d mode) ↔ IsNamed setup.names (rights_of declarations) s d mode
