-- Where a setup file is at fault, and why.
use Rattle.std.specs.Prelude.{◌≡◌, ◌<◌, ◌⊎◌, ℕ, zero, suc, ◌+◌, List, [], ◌∷◌, Option, Some, None, MatchOption, length, slice_get}
use Rattle.bl_level.specs.Canonical.{spelled}
use Rattle.bl_level.specs.Cutting.{Cut}
use Rattle.bl_level.specs.Lexing.{Begins}
use Rattle.bl_level.specs.LevelText.{spell_level}
use Rattle.bl_level.specs.Token.{Tok, name}
use Rattle.bl_nearest.specs.Nearest.{IsNearest, NoneIsNear}
use Rattle.bl_policy.specs.Limits.{most_subjects, most_documents}
use Rattle.bl_work.specs.Content.{most_bytes}
use Rattle.bl_work.specs.Names.{KnownNames}
use Rattle.bl_declare.specs.Declaration.{Declaration, declared_content, ranks, categories, subject, document, allow, spell_declaration}
use Rattle.bl_declare.specs.declared.fault.SetupFault.{SetupFault}
use Rattle.bl_declare.specs.declared.fault.SetupFaultKind.{SetupFaultKind}
use Rattle.bl_declare.specs.declared.fault.SetupFaultKind.TheVariants as kinds
use Rattle.bl_setup.specs.FirstSetupFault.{SoFar, nothing, ranked, declared, IsDue, StopsAt}
use Rattle.bl_setup.specs.Lines.{file_lines}
use Rattle.bl_due.specs.declared.due.Section.{Section}
use Rattle.bl_due.specs.declared.due.Section.TheVariants as section
use Rattle.bl_due.specs.Misfits.{IsMisfit}
use Rattle.bl_spot.specs.declared.asked.Asked.{Asked}
use Rattle.bl_spot.specs.declared.before.Before.{Before}
use Rattle.bl_spot.specs.declared.before.Before.TheVariants as source
use Rattle.bl_spot.specs.declared.located.Excess.{Excess}
use Rattle.bl_spot.specs.declared.located.Excess.TheVariants.{Names, Content}
use Rattle.bl_spot.specs.declared.located.Located.{Located}
use Rattle.bl_spot.specs.declared.located.Located.TheVariants as located
use Rattle.bl_spot.specs.declared.located.Named.{Named}
use Rattle.bl_spot.specs.declared.located.Named.TheVariants as named
use Rattle.bl_spot.specs.declared.located.Reason.{Reason}
use Rattle.bl_spot.specs.declared.located.Reason.TheVariants as reason
use Rattle.bl_spot.specs.declared.located.Spot.{Spot}
use Rattle.bl_spot.specs.Asking.{FailsFirst, ask}

-- the section whose declarations are due behind what was declared
abbrev pub section_of : SoFar → Section
section_of nothing = section.Ranks
section_of (ranked names) = section.Categories
section_of (declared setup) = section.Entries

-- the section that a file lacks that ends behind so many lines that are read
abbrev pub missing_behind : ℕ → Section
missing_behind zero = section.Ranks
missing_behind (suc read) = section.Categories

-- a value of the code stands for what was declared
abbrev pub IsBefore : SoFar → Before → Type 0
IsBefore nothing source.Nothing = Unit {0}
IsBefore (ranked names) source.Ranked = Unit {0}
IsBefore (declared setup) (source.Declared found) = found ≡ setup
IsBefore _ _ = ⊥

-- the names of this that are known
abbrev pub known_of : KnownNames → Named → List (List ℕ)
known_of names named.Rank = names.scheme.ranks
known_of names named.Category = names.scheme.categories
known_of names named.Subject = names.subjects
known_of names named.Document = names.documents

-- the names of this that were declared
abbrev pub known_in : SoFar → Named → List (List ℕ)
known_in (declared setup) of_it = known_of setup.names of_it
known_in _ of_it = []

-- of the names that were declared this one is the nearest to the name of a token, or none is near
abbrev pub IsNearestAt : SoFar → List Tok → ℕ → Named → Option (List ℕ) → Type 0
IsNearestAt before tokens token of_it near =
    (word : List ℕ) → slice_get tokens token ≡ Some (name word)
    → MatchOption near (NoneIsNear (known_in before of_it) word) (IsNearest (known_in before of_it) word)

-- With the token there is too much: the 17th rank, the 33rd category, the name of the 257th subject or the 1,025th document, or the
-- content that is too long.
abbrev pub IsExcess : SoFar → Declaration → ℕ → Excess → Type 0
IsExcess nothing (ranks lowest higher) token (Names named.Rank) = (16 < length (lowest ∷ higher)) × (token ≡ 17)
IsExcess (ranked names) (categories words) token (Names named.Category) = (32 < length words) × (token ≡ 33)
IsExcess (declared setup) (subject s) token (Names named.Subject) = (most_subjects < suc (length setup.names.subjects)) × (token ≡ 1)
IsExcess (declared setup) (document d) token (Names named.Document) = (most_documents < suc (length setup.names.documents)) × (token ≡ 1)
IsExcess (declared setup) (document d) token Content =
    (length setup.names.documents < most_documents) × (most_bytes < length (declared_content d)) × (token ≡ 2 + length (spell_level d.level))
IsExcess _ _ token excess = ⊥

-- the tokens from one to another are those of a subject's current level
abbrev pub IsCurrent : Declaration → ℕ → ℕ → Type 0
IsCurrent (subject s) first last = (first ≡ 4 + length (spell_level s.greatest)) × (suc last ≡ first + length (spell_level s.current))
IsCurrent _ first last = ⊥

-- the declaration is no subject's
abbrev pub IsNoSubject : Declaration → Type 0
IsNoSubject (subject s) = ⊥
IsNoSubject _ = Unit {0}

-- why a name is at fault that is the first: it is unknown, and this is the nearest, or it is repeated
abbrev pub IsReasonOf : SoFar → List Tok → Asked → Reason → Type 0
IsReasonOf before tokens a (reason.Unknown of_it near) = (a.kind ≡ kinds.Unknown) × (of_it ≡ a.named) × IsNearestAt before tokens a.token a.named near
IsReasonOf before tokens a (reason.Repeated of_it) = ((a.kind ≡ kinds.Unknown) → ⊥) × (of_it ≡ a.named)
IsReasonOf before tokens a _ = ⊥

-- the name at this token is the first at fault, and this is why
abbrev pub IsNameFault : SoFar → Declaration → SetupFaultKind → ℕ → Reason → Type 0
IsNameFault before d kind token r =
    (a : Asked) × FailsFirst (ask before d) a × (a.token ≡ token) × (a.kind ≡ kind) × IsReasonOf before (spell_declaration d) a r

-- What is wrong with a declaration that is due: these tokens are at fault, from one to another, with this reason.
abbrev pub AreAtFault : SoFar → Declaration → SetupFaultKind → ℕ → ℕ → Reason → Type 0
AreAtFault before d kind first last (reason.Unknown of_it near) = (first ≡ last) × IsNameFault before d kind first (reason.Unknown of_it near)
AreAtFault before d kind first last (reason.Repeated of_it) = (first ≡ last) × IsNameFault before d kind first (reason.Repeated of_it)
AreAtFault before d kind first last reason.CurrentAboveGreatest = (kind ≡ kinds.CurrentAboveGreatest) × IsCurrent d first last
AreAtFault before d kind first last (reason.TooMany excess) = (kind ≡ kinds.TooMany) × (first ≡ last) × IsExcess before d first excess

-- the bytes are those from the first byte of one token to the last of another
pub record IsExtent (tokens : List Tok) (places : List ℕ) (first last at len : ℕ) : Type 0 where
  pub begins : slice_get places first ≡ Some at
  pub token : Tok
  pub last_is : slice_get tokens last ≡ Some token
  pub last_at : ℕ
  pub last_place : slice_get places last ≡ Some last_at
  pub ends : at + len ≡ last_at + length (spelled token)

-- The line spells a declaration that is due, and the bytes are those of its tokens at fault.
pub record IsSpot (before : SoFar) (line : List ℕ) (kind : SetupFaultKind) (spot : Spot) : Type 0 where
  pub declaration : Declaration
  pub spelled : Begins line (spell_declaration declaration) []
  pub due : IsDue before declaration
  pub first : ℕ
  pub last : ℕ
  pub tells : AreAtFault before declaration kind first last spot.reason
  pub places : List ℕ
  pub cut : Cut (length line) line (spell_declaration declaration) places None
  pub extent : IsExtent (spell_declaration declaration) places first last spot.at spot.len

-- what is told of a line
abbrev pub IsLocatedIn : SetupFaultKind → Located → SoFar → List ℕ → Type 0
IsLocatedIn kind (located.Misfit m) before line = (kind ≡ kinds.Syntax) × IsMisfit (section_of before) line m
IsLocatedIn kind (located.Word spot) before line = IsSpot before line kind spot
IsLocatedIn kind _ before line = ⊥

-- what is told of the next line; where none is left, the section that is missing
abbrev pub IsLocatedNext : SetupFaultKind → Located → SoFar → List (List ℕ) → Type 0
IsLocatedNext kind (located.End missing) before [] = missing ≡ section_of before
IsLocatedNext kind _ before [] = ⊥
IsLocatedNext kind l before (line ∷ lines) = IsLocatedIn kind l before line

-- no line is told
abbrev pub IsOfFile : Located → Type 0
IsOfFile located.File = Unit {0}
IsOfFile _ = ⊥

-- Own choice, as compilers tell: a fault of a setup file is told with the place of the first word that is at fault in its line, behind
-- what the lines before it declared; a file that is too large as a whole.
abbrev pub IsLocated : List ℕ → SetupFault → Located → Type 0
IsLocated bytes fault l =
    ((fault.line ≡ 0) × IsOfFile l) ⊎ StopsAt (IsLocatedNext fault.kind l) nothing 0 (file_lines bytes) fault.line
