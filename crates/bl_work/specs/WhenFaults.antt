-- What may be wrong with a `when` that is spelled as it should be.
use Rattle.std.specs.Prelude.{ℕ, ◌+◌, ◌≤◌, max, Bool, ◌&&◌, List, [], ◌∷◌, ◌++◌, map, length, All, Contains, IsTrue}
use Rattle.std.specs.List.{list_any}
use Rattle.std.specs.Str.{bytes_eq}
use Rattle.bl_policy.specs.declared.access.Mode.{Mode}
use Rattle.bl_work.specs.Modes.{observes, alters, is_write}
use Rattle.bl_work.specs.Names.{KnownNames}
use Rattle.bl_work.specs.Script.{most_behaviours, most_accesses, most_depth}
use Rattle.bl_work.specs.Spelled.{SpelledAccess, SpelledBody, empty, show, say, add, set, copy, pour, if_then, if_else, spawn}
use Rattle.bl_document.specs.Content.{IsContent}
use Rattle.bl_work.specs.Meaning.{whens}

-- own choice: a `when` or an `if` in a body is one step deeper than the `when` or `if` that has the body
abbrev pub depth_in : SpelledBody → ℕ
depth_in empty = 0
depth_in (show document rest) = depth_in rest
depth_in (say words rest) = depth_in rest
depth_in (add document words rest) = depth_in rest
depth_in (set document words rest) = depth_in rest
depth_in (copy from to rest) = depth_in rest
depth_in (pour from to rest) = depth_in rest
depth_in (if_then document asks words then_body rest) = max (1 + depth_in then_body) (depth_in rest)
depth_in (if_else document asks words then_body else_body rest) = max (1 + max (depth_in then_body) (depth_in else_body)) (depth_in rest)
depth_in (spawn first more body rest) = max (1 + depth_in body) (depth_in rest)

-- the outermost `when` has depth 1, and nothing is deeper than 8
abbrev pub IsShallow : SpelledBody → Type 0
IsShallow body = 1 + depth_in body ≤ most_depth

-- the accesses of each `when` in a body, in the order of the text
abbrev pub lists_in : SpelledBody → List (List SpelledAccess)
lists_in empty = []
lists_in (show document rest) = lists_in rest
lists_in (say words rest) = lists_in rest
lists_in (add document words rest) = lists_in rest
lists_in (set document words rest) = lists_in rest
lists_in (copy from to rest) = lists_in rest
lists_in (pour from to rest) = lists_in rest
lists_in (if_then document asks words then_body rest) = lists_in then_body ++ lists_in rest
lists_in (if_else document asks words then_body else_body rest) = lists_in then_body ++ (lists_in else_body ++ lists_in rest)
lists_in (spawn first more body rest) = (first ∷ more) ∷ (lists_in body ++ lists_in rest)

-- not too many `when`, and none with too many accesses
pub record AreFew (first : SpelledAccess) (more : List SpelledAccess) (body : SpelledBody) : Type 0 where
  pub whens : 1 + whens body ≤ most_behaviours
  pub accesses : All (λ (list : List SpelledAccess). length list ≤ most_accesses) ((first ∷ more) ∷ lists_in body)

-- the documents that these accesses name
abbrev pub documents_in : List SpelledAccess → List (List ℕ)
documents_in = map (λ (access : SpelledAccess). access.document)

-- the names of documents in a body, from the left
abbrev pub names_in : SpelledBody → List (List ℕ)
names_in empty = []
names_in (show document rest) = document ∷ names_in rest
names_in (say words rest) = names_in rest
names_in (add document words rest) = document ∷ names_in rest
names_in (set document words rest) = document ∷ names_in rest
names_in (copy from to rest) = from ∷ to ∷ names_in rest
names_in (pour from to rest) = from ∷ to ∷ names_in rest
names_in (if_then document asks words then_body rest) = document ∷ (names_in then_body ++ names_in rest)
names_in (if_else document asks words then_body else_body rest) = document ∷ (names_in then_body ++ (names_in else_body ++ names_in rest))
names_in (spawn first more body rest) = documents_in (first ∷ more) ++ (names_in body ++ names_in rest)

-- the names of documents in a `when`, from the left
abbrev pub names_of_when : SpelledAccess → List SpelledAccess → SpelledBody → List (List ℕ)
names_of_when first more body = documents_in (first ∷ more) ++ names_in body

-- a document that a `when` declares, behind those that it has declared
pub record Declaration : Type 0 where
  pub earlier : List (List ℕ)
  pub document : List ℕ

abbrev pub declarations_behind : List (List ℕ) → List SpelledAccess → List Declaration
declarations_behind earlier [] = []
declarations_behind earlier (access ∷ more) =
    record { earlier = earlier; document = access.document } ∷ declarations_behind (access.document ∷ earlier) more

-- the declarations in a body, from the left
abbrev pub declarations_in : SpelledBody → List Declaration
declarations_in empty = []
declarations_in (show document rest) = declarations_in rest
declarations_in (say words rest) = declarations_in rest
declarations_in (add document words rest) = declarations_in rest
declarations_in (set document words rest) = declarations_in rest
declarations_in (copy from to rest) = declarations_in rest
declarations_in (pour from to rest) = declarations_in rest
declarations_in (if_then document asks words then_body rest) = declarations_in then_body ++ declarations_in rest
declarations_in (if_else document asks words then_body else_body rest) =
    declarations_in then_body ++ (declarations_in else_body ++ declarations_in rest)
declarations_in (spawn first more body rest) =
    declarations_behind [] (first ∷ more) ++ (declarations_in body ++ declarations_in rest)

abbrev pub declarations_of_when : SpelledAccess → List SpelledAccess → SpelledBody → List Declaration
declarations_of_when first more body = declarations_behind [] (first ∷ more) ++ declarations_in body

-- the document was not declared before in the same `when`
abbrev pub IsOnce : Declaration → Type 0
IsOnce declaration = Contains declaration.earlier declaration.document → ⊥

-- a document in a statement, the modes that the statement asks for, and what the innermost `when` round it declares
pub record Usage : Type 0 where
  pub declared : List SpelledAccess
  pub asked : Mode → Bool
  pub document : List ℕ

-- the documents in the statements of a body under these accesses, from the left
abbrev pub uses_in : List SpelledAccess → SpelledBody → List Usage
uses_in declared empty = []
uses_in declared (show document rest) = record { declared = declared; asked = observes; document = document } ∷ uses_in declared rest
uses_in declared (say words rest) = uses_in declared rest
uses_in declared (add document words rest) = record { declared = declared; asked = alters; document = document } ∷ uses_in declared rest
uses_in declared (set document words rest) = record { declared = declared; asked = is_write; document = document } ∷ uses_in declared rest
uses_in declared (copy from to rest) =
    record { declared = declared; asked = observes; document = from }
    ∷ record { declared = declared; asked = is_write; document = to } ∷ uses_in declared rest
uses_in declared (pour from to rest) =
    record { declared = declared; asked = observes; document = from }
    ∷ record { declared = declared; asked = alters; document = to } ∷ uses_in declared rest
uses_in declared (if_then document asks words then_body rest) =
    record { declared = declared; asked = observes; document = document }
    ∷ (uses_in declared then_body ++ uses_in declared rest)
uses_in declared (if_else document asks words then_body else_body rest) =
    record { declared = declared; asked = observes; document = document }
    ∷ (uses_in declared then_body ++ (uses_in declared else_body ++ uses_in declared rest))
uses_in declared (spawn first more body rest) = uses_in (first ∷ more) body ++ uses_in declared rest

-- some access declares the document in a mode that is asked for
abbrev pub IsDeclared : Usage → Type 0
IsDeclared usage =
    IsTrue (list_any (λ (access : SpelledAccess). bytes_eq access.document usage.document && usage.asked access.mode) usage.declared)

-- A `when` with none of these faults: not too deep, not too many, each name a document's, no document declared twice, and each
-- document in a statement declared as the statement asks.
pub record IsFaultless (names : KnownNames) (first : SpelledAccess) (more : List SpelledAccess) (body : SpelledBody) : Type 0 where
  pub shallow : IsShallow body
  pub few : AreFew first more body
  pub known : All (Contains names.documents) (names_of_when first more body)
  pub once : All IsOnce (declarations_of_when first more body)
  pub declared : All IsDeclared (uses_in (first ∷ more) body)

-- each text in a body is a content
abbrev pub AreContents : SpelledBody → Type 0
AreContents empty = Unit {0}
AreContents (show document rest) = AreContents rest
AreContents (say words rest) = IsContent words × AreContents rest
AreContents (add document words rest) = IsContent words × AreContents rest
AreContents (set document words rest) = IsContent words × AreContents rest
AreContents (copy from to rest) = AreContents rest
AreContents (pour from to rest) = AreContents rest
AreContents (if_then document asks words then_body rest) = IsContent words × (AreContents then_body × AreContents rest)
AreContents (if_else document asks words then_body else_body rest) =
    IsContent words × (AreContents then_body × (AreContents else_body × AreContents rest))
AreContents (spawn first more body rest) = AreContents body × AreContents rest
