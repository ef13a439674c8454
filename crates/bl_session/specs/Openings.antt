-- Which events of a hall opened a session.
use Rattle.std.specs.Prelude.{Bool, true, false}
use Rattle.bl_hall.specs.declared.event.Event.{Event}
use Rattle.bl_hall.specs.declared.event.Event.TheVariants.{Open, Line, Start, End, Lost}

abbrev pub is_opening : Event → Bool
is_opening (Open subject) = true
is_opening (Line session ordinal) = false
is_opening (Start n) = false
is_opening (End n) = false
is_opening (Lost n) = false
