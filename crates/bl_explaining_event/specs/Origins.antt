-- What stands above an entry.
use Rattle.bl_core.specs.declared.origin.Origin.{Origin}
use Rattle.bl_core.specs.declared.origin.Origin.TheVariants.{Line, Child}
use Rattle.bl_explaining_event.specs.declared.labels.Above.{Above}
use Rattle.bl_explaining_event.specs.declared.labels.Above.TheVariants.{Session, Parent}

-- the session of a line, or the parent of a child
abbrev pub above_of : Origin → Above
above_of (Line session ordinal) = Session session
above_of (Child parent which) = Parent parent
