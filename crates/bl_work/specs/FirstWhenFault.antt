-- The fault of a `when` that is spelled as it should be. Each is asked of the whole line before the next.
use Rattle.std.specs.Prelude.{ℕ, ◌≤◌, length, List, ◌∷◌, All, Contains}
use Rattle.bl_work.specs.declared.asked.LineFault.{LineFault}
use Rattle.bl_work.specs.declared.asked.LineFault.TheVariants.{Long, Syntax, Deep, Many, Unknown, Twice, Mode, Memory}
use Rattle.bl_work.specs.Names.{KnownNames}
use Rattle.bl_work.specs.Script.{most_accesses}
use Rattle.bl_work.specs.Spelled.{SpelledAccess, SpelledBody}
use Rattle.bl_work.specs.Meaning.{whens}
use Rattle.bl_work.specs.First.{IsFirstWithout, IsNameOfFirst}
use Rattle.bl_work.specs.WhenFaults.{IsShallow, lists_in, AreFew, names_of_when, Declaration, declarations_of_when, IsOnce, Usage, uses_in, IsDeclared}

-- not too many accesses of one `when`
abbrev pub HasFewAccesses : List SpelledAccess → Type 0
HasFewAccesses accesses = length accesses ≤ most_accesses

-- so many `when` at most stand in a body, and none has too many accesses
pub record AreFewIn (most : ℕ) (body : SpelledBody) : Type 0 where
  pub count : whens body ≤ most
  pub accesses : All HasFewAccesses (lists_in body)

-- a name goes with itself
abbrev pub same_name : List ℕ → List ℕ
same_name name = name

-- the document that is declared, and the one that is used
abbrev pub declared_document : Declaration → List ℕ
declared_document declaration = declaration.document

abbrev pub used_document : Usage → List ℕ
used_document usage = usage.document

module _ (names : KnownNames) (first : SpelledAccess) (more : List SpelledAccess) (body : SpelledBody) where
  -- each name is a document's
  abbrev pub AreKnown : Type 0
  AreKnown = All (Contains names.documents) (names_of_when first more body)

  -- no document is declared twice in one `when`
  abbrev pub AreOnce : Type 0
  AreOnce = All IsOnce (declarations_of_when first more body)

  -- some `when` or `if` is too deep
  abbrev pub IsDeep : Type 0
  IsDeep = IsShallow body → ⊥

  -- there are too many `when`, or too many accesses of one
  abbrev pub AreMany : Type 0
  AreMany = AreFew first more body → ⊥

  -- the first name from the left that is no document's
  abbrev pub IsFirstUnknown : List ℕ → Type 0
  IsFirstUnknown name = IsFirstWithout (Contains names.documents) (names_of_when first more body) name

  -- the first document from the left that is declared a second time in one `when`
  abbrev pub IsFirstTwice : List ℕ → Type 0
  IsFirstTwice name = IsNameOfFirst IsOnce declared_document (declarations_of_when first more body) name

  -- The first document from the left, in a statement, that the innermost `when` round it does not declare in a mode that the
  -- statement asks for.
  abbrev pub IsFirstUndeclared : List ℕ → Type 0
  IsFirstUndeclared name = IsNameOfFirst IsDeclared used_document (uses_in (first ∷ more) body) name

  -- The fault of the `when`: none of those before it, and this one. It is neither too long nor misspelled, and takes no memory.
  abbrev pub IsWhenFault : LineFault → Type 0
  IsWhenFault Long = ⊥
  IsWhenFault (Syntax place) = ⊥
  IsWhenFault Deep = IsDeep
  IsWhenFault Many = IsShallow body × AreMany
  IsWhenFault (Unknown name) = IsShallow body × AreFew first more body × IsFirstUnknown name
  IsWhenFault (Twice name) = IsShallow body × AreFew first more body × AreKnown × IsFirstTwice name
  IsWhenFault (Mode name) = IsShallow body × AreFew first more body × AreKnown × AreOnce × IsFirstUndeclared name
  IsWhenFault Memory = ⊥
