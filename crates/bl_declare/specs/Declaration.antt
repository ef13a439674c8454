-- The declarations of a setup file, and how each is spelled in tokens.
use Rattle.std.specs.Prelude.{ℕ, Bool, true, false, List, [], ◌∷◌, ◌++◌, map, Option, Some, None, unwrap_or}
use Rattle.bl_name.specs.declared.token.Keyword.{Keyword}
use Rattle.bl_name.specs.declared.token.Keyword.TheVariants.{Ranks, Categories, Subject, Greatest, Current, Trusted, Admin, Document, Reserve, Allow}
use Rattle.bl_level.specs.Token.{Tok, reserved, name, text}
use Rattle.bl_level.specs.LevelText.{LevelText, spell_level}
use Rattle.bl_policy.specs.declared.access.Mode.{Mode}
pub use Rattle.bl_work.specs.Letters.{letter_of}

-- a subject's name, the texts of its levels, and whether it is trusted and an administrator
pub record SubjectText : Type 0 where
  pub name : List ℕ
  pub greatest : LevelText
  pub current : LevelText
  pub trusted : Bool
  pub admin : Bool

-- a document's name, the text of its level, and its content, which a document that is not present has not
pub record DocumentText : Type 0 where
  pub name : List ℕ
  pub level : LevelText
  pub content : Option (List ℕ)

-- what the document contains: where it is not present, nothing
abbrev pub declared_content : DocumentText → List ℕ
declared_content d = unwrap_or d.content []

-- the names of a subject and a document, and the modes that are added to their cell: at least one
pub record AllowText : Type 0 where
  pub subject : List ℕ
  pub document : List ℕ
  pub mode : Mode
  pub modes : List Mode

-- own choice: the five declarations
pub data Declaration : Type 0 where
  ranks : (lowest : List ℕ) → (higher : List (List ℕ)) → Declaration
  categories : (names : List (List ℕ)) → Declaration
  subject : SubjectText → Declaration
  document : DocumentText → Declaration
  allow : AllowText → Declaration

abbrev pub spell_names : List (List ℕ) → List Tok
spell_names names = map name names

abbrev pub spell_modes : List Mode → List Tok
spell_modes modes = map (λ mode. name (letter_of mode)) modes

-- a word that stands there, or nothing
abbrev pub spell_flag : Keyword → Bool → List Tok
spell_flag word true = reserved word ∷ []
spell_flag word false = []

-- `subject NAME greatest LEVEL current LEVEL [trusted] [admin]`
abbrev pub spell_subject : SubjectText → List Tok
spell_subject s =
    reserved Subject ∷ name s.name ∷ reserved Greatest ∷ (spell_level s.greatest
    ++ reserved Current ∷ (spell_level s.current ++ (spell_flag Trusted s.trusted ++ spell_flag Admin s.admin)))

-- the word of a document that has a content, and of one that has none
abbrev pub document_word : Option (List ℕ) → Keyword
document_word (Some content) = Document
document_word None = Reserve

-- a content, where there is one
abbrev pub spell_content : Option (List ℕ) → List Tok
spell_content (Some content) = text content ∷ []
spell_content None = []

-- `document NAME LEVEL "CONTENT"`, or `reserve NAME LEVEL`
abbrev pub spell_document : DocumentText → List Tok
spell_document d = reserved (document_word d.content) ∷ name d.name ∷ (spell_level d.level ++ spell_content d.content)

-- `allow SUBJECT DOCUMENT LETTER { LETTER }`
abbrev pub spell_allow : AllowText → List Tok
spell_allow a = reserved Allow ∷ name a.subject ∷ name a.document ∷ name (letter_of a.mode) ∷ spell_modes a.modes

-- `ranks NAME { NAME }`, lowest first, and `categories { NAME }`
abbrev pub spell_declaration : Declaration → List Tok
spell_declaration (ranks lowest higher) = reserved Ranks ∷ name lowest ∷ spell_names higher
spell_declaration (categories names) = reserved Categories ∷ spell_names names
spell_declaration (subject s) = spell_subject s
spell_declaration (document d) = spell_document d
spell_declaration (allow a) = spell_allow a
