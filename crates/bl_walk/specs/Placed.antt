-- Documents by their places, and accesses that are of them.
use Rattle.std.specs.Prelude.{◌≡◌, ◌≢◌, ℕ, ◌<◌, ◌≤◌, Bool, List, [], ◌∷◌, length, map, slice_index_or, All, AllPairs, Some, IsTrue}
use Rattle.bl_level.specs.Table.{place_of}
use Rattle.bl_level.specs.Token.{Tok, name}
use Rattle.bl_policy.specs.declared.access.Access.{Access}
use Rattle.bl_policy.specs.declared.access.Mode.{Mode}
use Rattle.bl_work.specs.Modes.{declares}
use Rattle.bl_work.specs.Names.{KnownNames}
use Rattle.bl_work.specs.Script.{most_accesses}
use Rattle.bl_work.specs.Spelled.{SpelledAccess, spell_access, spell_more}
use Rattle.bl_walk.specs.Takes.{Takes}

module _ (names : KnownNames) where
  -- the name of the document at a place
  abbrev pub name_at : ℕ → List ℕ
  name_at doc = slice_index_or names.documents doc []

  -- a document stands there, and its name has no other place
  abbrev pub IsPlaced : ℕ → Type 0
  IsPlaced doc = place_of (name_at doc) names.documents ≡ Some doc

  -- the access is of a document
  abbrev pub IsOfDocument : Access → Type 0
  IsOfDocument access = IsPlaced access.doc

  -- the access as it is spelled
  abbrev pub spelled_access : Access → SpelledAccess
  spelled_access access = record { mode = access.mode; document = name_at access.doc }

  abbrev pub spelled_accesses : List Access → List SpelledAccess
  spelled_accesses accesses = map spelled_access accesses

-- the tokens of accesses, a comma before each but the first, and then these
abbrev pub spell_accesses : List SpelledAccess → List Tok → List Tok
spell_accesses [] behind = behind
spell_accesses (first ∷ more) behind = spell_access first (spell_more more behind)

-- An access was taken: a mode and the name of a document.
pub record TakesAccess (names : KnownNames) (bytes rest : List ℕ) (access : Access) : Type 0 where
  pub placed : IsPlaced names access.doc
  pub takes : Takes bytes (spell_access (spelled_access names access) []) rest

-- Accesses were taken that a behaviour may declare: some, not too many, and no two of one document.
pub record TakesAccesses (names : KnownNames) (bytes rest : List ℕ) (accesses : List Access) : Type 0 where
  pub some : 0 < length accesses
  pub few : length accesses ≤ most_accesses
  pub placed : All (IsOfDocument names) accesses
  pub apart : AllPairs (λ (a b : Access). a.doc ≢ b.doc) accesses
  pub takes : Takes bytes (spell_accesses (spelled_accesses names accesses) []) rest

-- The name of a document was taken, which the accesses declare in a mode that is asked for.
pub record TakesDeclared (names : KnownNames) (accesses : List Access) (asked : Mode → Bool) (bytes rest : List ℕ) (doc : ℕ) : Type 0 where
  pub placed : IsPlaced names doc
  pub declared : IsTrue (declares asked accesses doc)
  pub takes : Takes bytes (name (name_at names doc) ∷ []) rest
