-- Where the entries of the order come from.
use Rattle.std.specs.Prelude.{Option, Some, None}
use Rattle.bl_work.specs.declared.work.Work.{Work}
use Rattle.bl_order.specs.Order.{Entry, Line, Child}
use Rattle.bl_core.specs.declared.origin.Origin.{Origin}
use Rattle.bl_core.specs.declared.origin.Origin.TheVariants as origin

-- where an entry comes from: the session and the ordinal of a line, the parent and the number of a child
abbrev pub origin_of : Entry → Origin
origin_of (Line session ordinal subject work) = origin.Line session ordinal
origin_of (Child parent which) = origin.Child parent which

-- the work that a line asks; a child is asked by no line
abbrev pub work_asked : Entry → Option Work
work_asked (Line session ordinal subject work) = Some work
work_asked (Child parent which) = None
