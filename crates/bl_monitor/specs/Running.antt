-- How far a run has come.
use Rattle.std.specs.Prelude.{◌≡◌, ℕ, ◌<◌, List, length, All}
use Rattle.bl_work.specs.Effects.{Effect, after, outputs, children, effects_from}
use Rattle.bl_work.specs.Statements.{Statements, Nothing, Show, Say, Add, Set, Copy, Pour, If, Spawn}
use Rattle.bl_monitor.specs.Undoing.{content_listed, undone, IsOf}
use Rattle.bl_monitor.specs.declared.run.Run.{Run}

-- each document that the statements use is below this count
abbrev pub UsesBelow : ℕ → Statements → Type 0
UsesBelow count Nothing = Unit {0}
UsesBelow count (Show doc rest) = (doc < count) × UsesBelow count rest
UsesBelow count (Say text rest) = UsesBelow count rest
UsesBelow count (Add doc text rest) = (doc < count) × UsesBelow count rest
UsesBelow count (Set doc text rest) = (doc < count) × UsesBelow count rest
UsesBelow count (Copy from to rest) = (from < count) × (to < count) × UsesBelow count rest
UsesBelow count (Pour from to rest) = (from < count) × (to < count) × UsesBelow count rest
UsesBelow count (If doc asks text then_body else_body rest) =
    (doc < count) × UsesBelow count then_body × UsesBelow count else_body × UsesBelow count rest
UsesBelow count (Spawn behaviour rest) = UsesBelow count rest

-- the contents, the texts that were shown and the behaviours that were spawned are what these effects make of the
-- contents at the start
pub record StandsAfter (start : ℕ → List ℕ) (effects : List Effect) (now : List (List ℕ)) (run : Run) : Type 0 where
  pub contents : (doc : ℕ) → doc < length now → content_listed now doc ≡ after (start doc) effects doc
  pub shown : run.shown.items ≡ outputs effects
  pub spawned : run.spawned.items ≡ children effects

-- wherever a run stands, it comes by these statements to their effects
abbrev pub GoesOn : Statements → List (List ℕ) → Run → List (List ℕ) → Run → Type 0
GoesOn body before old now new =
    (start : ℕ → List ℕ) (so_far : List Effect) → StandsAfter start so_far before old
    → StandsAfter start (effects_from start so_far body) now new

-- what undoes the changes leads back as far as it did, and is of documents that are there
pub record LeadsBack (before : List (List ℕ)) (old : Run) (now : List (List ℕ)) (new : Run) : Type 0 where
  pub long : length now ≡ length before
  pub same : undone now new.undos.items ≡ undone before old.undos.items
  pub there : All (IsOf (length before)) old.undos.items → All (IsOf (length now)) new.undos.items
