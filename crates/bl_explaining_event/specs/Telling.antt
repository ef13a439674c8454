-- What a run of `explain` of an event says of the fault that ends it, and the status that it ends with.
use Rattle.std.specs.Prelude.{ℕ, List, codes}
use Rattle.bl_status.specs.Message.{fault_line}
use Rattle.bl_status.specs.Status.{status_of}
use Rattle.bl_explaining_trail.specs.Telling.{event_line}
use Rattle.bl_explaining_event.specs.declared.fault.EventFault.{EventFault}
use Rattle.bl_explaining_event.specs.declared.fault.EventFault.TheVariants.{NoEvent, StartsNothing, Program}

-- own choice: what is said of each fault
abbrev pub fault_text : EventFault → List ℕ
fault_text (NoEvent event) = event_line (codes "no event ") event (codes "\n")
fault_text (StartsNothing event) = event_line (codes "event ") event (codes " starts nothing\n")
fault_text (Program fault) = fault_line fault

-- 2 for an event that is not there or starts nothing, 4 when out of memory, and 3 for anything else
abbrev pub status_by : EventFault → ℕ
status_by (NoEvent event) = 2
status_by (StartsNothing event) = 2
status_by (Program fault) = status_of fault
