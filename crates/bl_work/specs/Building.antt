-- What is built of a `when`, behind the behaviours that are built already.
use Rattle.std.specs.Prelude.{◌≡◌, ℕ, ◌+◌, List, ◌∷◌, ◌++◌, map, length}
use Rattle.bl_work.specs.Names.{KnownNames}
use Rattle.bl_work.specs.Spelled.{SpelledAccess, SpelledBody}
use Rattle.bl_work.specs.Statements.{Statements, Part}
use Rattle.bl_work.specs.Meaning.{access_of, numbered, spawned_from}

-- the behaviours of a `when`, its own having this number
abbrev pub when_from : KnownNames → ℕ → SpelledAccess → List SpelledAccess → SpelledBody → List Part
when_from names next first more body =
    record { accesses = map (access_of names) (first ∷ more); body = numbered names (next + 1) body } ∷ spawned_from names (next + 1) body

-- The body as spelled has become these statements, and behind the behaviours that there were stand those that it spawns.
pub record IsBuilt (names : KnownNames) (spelled : SpelledBody) (old new : List Part) (body : Statements) : Type 0 where
  pub statements : body ≡ numbered names (length old) spelled
  pub behaviours : new ≡ old ++ spawned_from names (length old) spelled
