-- What the check of a `when` hands on to who builds its script.
use Rattle.std.specs.Prelude.{◌≡◌, List, ◌∷◌, map}
use Rattle.bl_work.specs.Meaning.{whens, access_of}
use Rattle.bl_work.specs.Names.{KnownNames}
use Rattle.bl_work.specs.Spelled.{SpelledAccess, SpelledBody}
use Rattle.bl_check.specs.declared.check.Checked.{Checked}

-- its own accesses, in order, each with the place of its document; and how many `when` stand in its body
pub record IsChecked (names : KnownNames) (first : SpelledAccess) (more : List SpelledAccess) (body : SpelledBody) (checked : Checked) : Type 0 where
  pub accesses : checked.accesses ≡ map (access_of names) (first ∷ more)
  pub spawned : checked.spawned ≡ whens body
