-- Which lists of behaviours are scripts.
use Rattle.std.specs.Prelude.{◌≢◌, ℕ, ◌<◌, ◌≤◌, length, All, AllPairs, List}
use Rattle.bl_policy.specs.declared.access.Access.{Access}
use Rattle.bl_document.specs.Content.{IsContent}
use Rattle.bl_work.specs.Statements.{Statements, Nothing, Show, Say, Add, Set, Copy, Pour, If, Spawn, Part}
use Rattle.bl_work.specs.Modes.{KeepsModes}
use Rattle.bl_work.specs.Nesting.{IsPreorder, depth_at}

-- own choice: 32 behaviours in one script, 8 accesses of one behaviour, 8 steps of nesting
abbrev pub most_behaviours : ℕ
most_behaviours = 32

abbrev pub most_accesses : ℕ
most_accesses = 8

abbrev pub most_depth : ℕ
most_depth = 8

-- each text in the statements is a content
abbrev pub HasContents : Statements → Type 0
HasContents Nothing = Unit {0}
HasContents (Show doc rest) = HasContents rest
HasContents (Say text rest) = IsContent text × HasContents rest
HasContents (Add doc text rest) = IsContent text × HasContents rest
HasContents (Set doc text rest) = IsContent text × HasContents rest
HasContents (Copy from to rest) = HasContents rest
HasContents (Pour from to rest) = HasContents rest
HasContents (If doc asks text then_body else_body rest) =
    IsContent text × HasContents then_body × HasContents else_body × HasContents rest
HasContents (Spawn behaviour rest) = HasContents rest

-- no two of the accesses declare the same document
abbrev pub AreApart : List Access → Type 0
AreApart accesses = AllPairs (λ (a b : Access). a.doc ≢ b.doc) accesses

-- one behaviour: some accesses of different documents, and a body that keeps to them
pub record IsBehaviour (part : Part) : Type 0 where
  pub some : 0 < length part.accesses
  pub few : length part.accesses ≤ most_accesses
  pub apart : AreApart part.accesses
  pub modes : KeepsModes part.accesses part.body
  pub texts : HasContents part.body

-- a script: not too many behaviours, in pre-order, not too deep, and each one right
pub record IsScript (script : List Part) : Type 0 where
  pub few : length script ≤ most_behaviours
  pub preorder : IsPreorder script
  pub shallow : depth_at script 0 ≤ most_depth
  pub each : All IsBehaviour script
