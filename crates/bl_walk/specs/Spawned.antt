-- The behaviours that a line spawns, as they are built.
use Rattle.std.specs.Prelude.{List, ◌∷◌}
use Rattle.bl_work.specs.Statements.{Part, no_part}

-- They stand behind the outermost behaviour, which has number 0 and is built last.
abbrev pub with_outermost : List Part → List Part
with_outermost spawned = no_part ∷ spawned
