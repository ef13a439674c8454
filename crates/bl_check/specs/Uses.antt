-- What a statement does with a document that it names, and the modes in which it may.
use Rattle.std.specs.Prelude.{ℕ, Bool, ◌&&◌, List}
use Rattle.std.specs.Str.{bytes_eq}
use Rattle.bl_policy.specs.declared.access.Mode.{Mode}
use Rattle.bl_check.specs.declared.modes.Does.{Does}
use Rattle.bl_check.specs.declared.modes.Does.TheVariants.{Observes, Alters, Replaces}
use Rattle.bl_work.specs.Modes.{observes, alters, is_write}
use Rattle.bl_work.specs.Spelled.{SpelledAccess}

-- the modes in which one may do so: what is observed is read or written, what is altered is appended to or written, and what is
-- replaced is written
abbrev pub passes : Does → Mode → Bool
passes Observes = observes
passes Alters = alters
passes Replaces = is_write

-- the access is of this document, in a mode that passes
abbrev pub declares_so : (Mode → Bool) → List ℕ → SpelledAccess → Bool
declares_so asked document access = bytes_eq access.document document && asked access.mode
