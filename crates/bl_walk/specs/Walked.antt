-- What was walked of a `when`: the bytes that were taken, what is right with what they spell, and what was built of it.
use Rattle.std.specs.Prelude.{◌≡◌, ℕ, ◌+◌, ◌≤◌, List, [], ◌∷◌, ◌++◌, length, All, Contains}
use Rattle.bl_name.specs.declared.token.Keyword.{Keyword}
use Rattle.bl_name.specs.declared.token.Keyword.TheVariants.{Do, End, Then}
use Rattle.bl_name.specs.declared.token.Sign.TheVariants.{Semicolon}
use Rattle.bl_level.specs.Token.{reserved, sign, text}
use Rattle.bl_policy.specs.declared.access.Access.{Access}
use Rattle.bl_work.specs.Body.{statements_of}
use Rattle.bl_work.specs.Building.{IsBuilt}
use Rattle.bl_work.specs.FirstWhenFault.{HasFewAccesses}
use Rattle.bl_work.specs.Meaning.{numbered, spawned_from}
use Rattle.bl_work.specs.Modes.{observes}
use Rattle.bl_work.specs.Names.{KnownNames}
use Rattle.bl_work.specs.Script.{most_behaviours, most_depth}
use Rattle.bl_work.specs.Spelled.{SpelledAccess, SpelledBody, asks_word, spell_body}
use Rattle.bl_work.specs.Statements.{Part}
use Rattle.bl_work.specs.WhenFaults.{depth_in, lists_in, names_in, declarations_in, IsOnce, uses_in, IsDeclared}
use Rattle.bl_work.specs.declared.script.Stmt.{Stmt}
use Rattle.bl_walk.specs.declared.plain.Test.{Test}
use Rattle.bl_walk.specs.Placed.{spelled_accesses, TakesAccesses, TakesDeclared}
use Rattle.bl_walk.specs.Takes.{Takes}

-- Nothing is wrong with a body at this depth, whose innermost `when` declares these accesses.
pub record IsPlain (names : KnownNames) (declared : List SpelledAccess) (depth : ℕ) (body : SpelledBody) : Type 0 where
  pub shallow : depth + depth_in body ≤ most_depth
  pub few : All HasFewAccesses (lists_in body)
  pub known : All (Contains names.documents) (names_in body)
  pub once : All IsOnce (declarations_in body)
  pub declares : All IsDeclared (uses_in declared body)

-- Statements were walked, from these bytes to the rest, and built, whatever statements follow: they stand before those,
-- nothing is wrong with the whole where nothing is wrong with those, and what is built of the whole is what was built and
-- what is built of those. Each took a byte at least.
pub record Walked (names : KnownNames) (accesses : List Access) (depth : ℕ) (bytes rest : List ℕ) (old new : List Part) (made : List Stmt) : Type 0 where
  pub before : SpelledBody → SpelledBody
  pub takes : (more : SpelledBody) (end : List ℕ) → Takes rest (spell_body more) end → Takes bytes (spell_body (before more)) end
  pub plain : (more : SpelledBody) → IsPlain names (spelled_accesses names accesses) depth more
      → IsPlain names (spelled_accesses names accesses) depth (before more)
  pub statements : (more : SpelledBody) (later : List Stmt) → statements_of later ≡ numbered names (length new) more
      → statements_of (made ++ later) ≡ numbered names (length old) (before more)
  pub behaviours : (more : SpelledBody) → new ++ spawned_from names (length new) more ≡ old ++ spawned_from names (length old) (before more)
  pub few : length new ≤ most_behaviours
  pub less : length rest + length made ≤ length bytes

-- A statement was walked that begins with this word, which was taken, up to its semicolon, which was not.
abbrev pub WalkedStatement : KnownNames → List Access → ℕ → Keyword → List ℕ → List ℕ → List Part → List Part → Stmt → Type 0
WalkedStatement names accesses depth start bytes rest old new made =
    (from behind : List ℕ) → Takes from (reserved start ∷ []) bytes → Takes rest (sign Semicolon ∷ []) behind
    → Walked names accesses depth from behind old new (made ∷ [])

-- An `if` was taken behind its first word, up to its `then`.
pub record TakesTest (names : KnownNames) (accesses : List Access) (bytes rest : List ℕ) (test : Test) : Type 0 where
  pub mid : List ℕ
  pub document : TakesDeclared names accesses observes bytes mid test.doc
  pub takes : Takes mid (reserved (asks_word test.test) ∷ text test.text ∷ reserved Then ∷ []) rest

-- A body was walked, and the word taken that ends it.
pub record WalkedBody (names : KnownNames) (accesses : List Access) (depth : ℕ) (last : Keyword) (bytes rest : List ℕ) (old new : List Part) (made : List Stmt) : Type 0 where
  pub mid : List ℕ
  pub walked : Walked names accesses depth bytes mid old new made
  pub ends : Takes mid (reserved last ∷ []) rest

-- A `when` was walked behind its first word, and this behaviour built, with those that it spawns.
pub record WalkedWhen (names : KnownNames) (depth : ℕ) (bytes rest : List ℕ) (old new : List Part) (part : Part) : Type 0 where
  pub mid : List ℕ
  pub inner : List ℕ
  pub accesses : TakesAccesses names bytes mid part.accesses
  pub begins : Takes mid (reserved Do ∷ []) inner
  pub body : SpelledBody
  pub takes : Takes inner (spell_body body ++ reserved End ∷ []) rest
  pub plain : IsPlain names (spelled_accesses names part.accesses) depth body
  pub built : IsBuilt names body old new part.body
  pub few : length new ≤ most_behaviours
