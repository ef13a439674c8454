-- What is asked of each name of a declaration, with its token.
use Rattle.std.specs.Prelude.{◌≡◌, ℕ, suc, ◌+◌, List, [], ◌∷◌, ◌++◌, length, map, Option, Some, None}
use Rattle.bl_level.specs.LevelText.{LevelText, spell_level}
use Rattle.bl_level.specs.Scheme.{SchemeNames}
use Rattle.bl_work.specs.Names.{KnownNames}
use Rattle.bl_declare.specs.Declaration.{Declaration, SubjectText, DocumentText, AllowText, ranks, categories, subject, document, allow}
use Rattle.bl_setup.specs.FirstSetupFault.{SoFar, nothing, ranked, declared, Question, is_new, is_known, IsSo, kind_of, AllHold}
use Rattle.bl_spot.specs.declared.asked.Asked.{Asked}
use Rattle.bl_spot.specs.declared.located.Named.{Named}
use Rattle.bl_spot.specs.declared.located.Named.TheVariants.{Rank, Category, Subject, Document}

-- a question, the number of tokens before the name that it is asked of, and what that is a name of
pub record Asking : Type 0 where
  pub token : ℕ
  pub named : Named
  pub question : Question

abbrev pub asking : ℕ → Named → Question → Asking
asking token named question = record { token = token; named = named; question = question }

abbrev pub questions_of : List Asking → List Question
questions_of askings = map (λ a. a.question) askings

-- each name, one token behind the other, is not among those before it
abbrev pub ask_names : ℕ → Named → List (List ℕ) → List (List ℕ) → List Asking
ask_names token named before [] = []
ask_names token named before (name ∷ names) = asking token named (is_new before name) ∷ ask_names (suc token) named (before ++ name ∷ []) names

-- each category, with a comma between two, is the scheme's, and not among those before it in its level
abbrev pub ask_categories : SchemeNames → ℕ → List (List ℕ) → List (List ℕ) → List Asking
ask_categories scheme token before [] = []
ask_categories scheme token before (name ∷ names) =
    asking token Category (is_known scheme.categories name) ∷ asking token Category (is_new before name)
    ∷ ask_categories scheme (suc (suc token)) (before ++ name ∷ []) names

-- a level's rank is the scheme's, and then its categories, behind the brace
abbrev pub ask_level : SchemeNames → ℕ → LevelText → List Asking
ask_level scheme token l = asking token Rank (is_known scheme.ranks l.rank) ∷ ask_categories scheme (suc (suc token)) [] l.categories

-- `subject NAME greatest LEVEL current LEVEL`: the name is new, and the levels are the scheme's
abbrev pub ask_subject : KnownNames → SubjectText → List Asking
ask_subject names s =
    asking 1 Subject (is_new names.subjects s.name)
    ∷ (ask_level names.scheme 3 s.greatest ++ ask_level names.scheme (4 + length (spell_level s.greatest)) s.current)

-- `document NAME LEVEL`: the name is new, and the level is the scheme's
abbrev pub ask_document : KnownNames → DocumentText → List Asking
ask_document names d = asking 1 Document (is_new names.documents d.name) ∷ ask_level names.scheme 2 d.level

-- `allow SUBJECT DOCUMENT`: both are known
abbrev pub ask_allow : KnownNames → AllowText → List Asking
ask_allow names a = asking 1 Subject (is_known names.subjects a.subject) ∷ asking 2 Document (is_known names.documents a.document) ∷ []

-- what is asked of a subject, a document or a right
abbrev pub ask_entry : KnownNames → Declaration → List Asking
ask_entry names (ranks lowest higher) = []
ask_entry names (categories words) = []
ask_entry names (subject s) = ask_subject names s
ask_entry names (document d) = ask_document names d
ask_entry names (allow a) = ask_allow names a

-- what is asked of the names of a declaration, from the left
abbrev pub ask : SoFar → Declaration → List Asking
ask nothing (ranks lowest higher) = ask_names 1 Rank [] (lowest ∷ higher)
ask (ranked names) (categories words) = ask_names 1 Category [] words
ask (declared setup) d = ask_entry setup.names d
ask _ _ = []

-- the first of these that does not hold is asked of this name
pub record FailsFirst (askings : List Asking) (a : Asked) : Type 0 where
  pub earlier : List Asking
  pub failing : Asking
  pub later : List Asking
  pub split : askings ≡ earlier ++ failing ∷ later
  pub hold : AllHold (questions_of earlier)
  pub fails : IsSo failing.question → ⊥
  pub token : a.token ≡ failing.token
  pub named : a.named ≡ failing.named
  pub kind : a.kind ≡ kind_of failing.question

-- the first name at fault; none, where all hold
abbrev pub Fails : List Asking → Option Asked → Type 0
Fails askings None = AllHold (questions_of askings)
Fails askings (Some a) = FailsFirst askings a
