-- Which setup the text of a setup file is: a relation between the bytes and the setup.
use Rattle.std.specs.Prelude.{◌≡◌, ◌↔◌, ℕ, ◌<◌, ◌≤◌, List, [], ◌∷◌, ◌++◌, length, Some, is_some, IsTrue, Contains, min}
use Rattle.bl_level.specs.Level.{SecurityLevel, Dominates}
use Rattle.bl_level.specs.Table.{place_of}
use Rattle.bl_level.specs.Scheme.{IsScheme}
use Rattle.bl_level.specs.LevelText.{Means}
use Rattle.bl_level.specs.Lexing.{Begins}
use Rattle.bl_policy.specs.declared.access.Mode.{Mode}
use Rattle.bl_policy.specs.declared.access.ModeSet.{ModeSet}
use Rattle.bl_policy.specs.Mode.{has_mode}
use Rattle.bl_policy.specs.Policy.{with_subject, with_declared, with_modes}
use Rattle.bl_setup.specs.Lines.{lines_read}
use Rattle.bl_declare.specs.Declaration.{Declaration, SubjectText, DocumentText, declared_content, AllowText, ranks, categories, subject, document, allow, spell_declaration}
use Rattle.bl_setup.specs.Setup.{Setup}
use Rattle.bl_setup.specs.Agreement.{of_scheme}
use Rattle.bl_policy.specs.Limits.{most_subjects, most_documents}
use Rattle.bl_work.specs.Content.{most_bytes}

-- own choice: a setup file has at most so many bytes
abbrev pub most_setup_bytes : ℕ
most_setup_bytes = 16777216

-- own choice: lines are counted in 32 bits, so any other bound counts only up to here
abbrev pub counted : ℕ → ℕ
counted most = min most 4294967294

-- The subject's name is new, and there is room for it; its texts mean two levels, the greatest of which dominates the
-- current one; and it stands behind the subjects that were declared before.
pub record AddsSubject (before : Setup) (s : SubjectText) (after : Setup) : Type 0 where
  pub room : length before.names.subjects < most_subjects
  pub is_new : Contains before.names.subjects s.name → ⊥
  pub greatest : SecurityLevel
  pub current : SecurityLevel
  pub means_greatest : Means before.names.scheme s.greatest greatest
  pub means_current : Means before.names.scheme s.current current
  pub dominates : Dominates greatest current
  pub is : after ≡ record before {
    names = record before.names { subjects = before.names.subjects ++ s.name ∷ [] };
    policy = with_subject before.policy (record { greatest = greatest; current = current; trusted = s.trusted; admin = s.admin });
  }

-- The document's name is new, and there is room for it; its text means a level; its content is not too long; and it
-- stands behind the documents that were declared before, present where it has a content.
pub record AddsDocument (before : Setup) (d : DocumentText) (after : Setup) : Type 0 where
  pub room : length before.names.documents < most_documents
  pub short : length (declared_content d) ≤ most_bytes
  pub is_new : Contains before.names.documents d.name → ⊥
  pub level : SecurityLevel
  pub means : Means before.names.scheme d.level level
  pub is : after ≡ record before {
    names = record before.names { documents = before.names.documents ++ d.name ∷ [] };
    policy = with_declared before.policy level (is_some d.content);
    contents = before.contents ++ declared_content d ∷ [];
  }

-- The subject and the document were declared before, and the modes that the line names, and no others, are added to their cell.
pub record AddsModes (before : Setup) (a : AllowText) (after : Setup) : Type 0 where
  pub subject : ℕ
  pub document : ℕ
  pub subject_is : place_of a.subject before.names.subjects ≡ Some subject
  pub document_is : place_of a.document before.names.documents ≡ Some document
  pub modes : ModeSet
  pub modes_are : (m : Mode) → IsTrue (has_mode modes m) ↔ Contains (a.mode ∷ a.modes) m
  pub is : after ≡ record before { policy = with_modes before.policy subject document modes }

-- what a declaration behind the first two makes of the setup so far
abbrev pub Adds : Setup → Declaration → Setup → Type 0
Adds before (ranks lowest higher) after = ⊥
Adds before (categories names) after = ⊥
Adds before (subject s) after = AddsSubject before s after
Adds before (document d) after = AddsDocument before d after
Adds before (allow a) after = AddsModes before a after

-- the line spells a declaration that does so
abbrev pub LineAdds : Setup → List ℕ → Setup → Type 0
LineAdds before line after = (d : Declaration) × Begins line (spell_declaration d) [] × Adds before d after

-- one declaration after the other leads from one setup to the other
abbrev pub Leads : Setup → List Declaration → Setup → Type 0
Leads before [] after = after ≡ before
Leads before (d ∷ ds) after = (next : Setup) × Adds before d next × Leads next ds after

-- each line is spelled as its declaration, with any blanks between its tokens
abbrev pub Spells : List (List ℕ) → List Declaration → Type 0
Spells [] ds = ds ≡ []
Spells (line ∷ lines) ds = (d : Declaration) × (rest : List Declaration) × (ds ≡ d ∷ rest) × Begins line (spell_declaration d) [] × Spells lines rest

-- Own choice: a text of at most `most` bytes is the setup that the lines lead to that are read: they declare the ranks,
-- then the categories, and then the rest, each name on an earlier line than the one that uses it.
pub record IsSetupWithin (most : ℕ) (bytes : List ℕ) (setup : Setup) : Type 0 where
  pub size : length bytes ≤ most
  pub lowest : List ℕ
  pub higher : List (List ℕ)
  pub names : List (List ℕ)
  pub declarations : List Declaration
  pub spelled : Spells (lines_read bytes) (ranks lowest higher ∷ categories names ∷ declarations)
  pub scheme : IsScheme (record { ranks = lowest ∷ higher; categories = names })
  pub leads : Leads (of_scheme (record { ranks = lowest ∷ higher; categories = names })) declarations setup

-- the setup that the text of a setup file is
abbrev pub IsSetup : List ℕ → Setup → Type 0
IsSetup bytes setup = IsSetupWithin most_setup_bytes bytes setup
