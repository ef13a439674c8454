-- What is done with a recovered hall, until nothing is left.
use Rattle.std.specs.List.{AllByRecursion}
use Rattle.bl_audit.specs.Bookmarks.{HasGrown}
use Rattle.bl_hall.specs.Chronicle.{Chronicle, HasTrail}
use Rattle.bl_order.specs.Machine.{Event, Opens, Admits, Starts, Ends, Loses}

-- an entry starts or ends: nothing is opened or admitted, and nothing is lost
abbrev pub IsOfRun : Event → Type 0
IsOfRun (Opens subject) = ⊥
IsOfRun (Admits session ordinal work) = ⊥
IsOfRun (Starts n) = Unit {0}
IsOfRun (Ends n) = Unit {0}
IsOfRun (Loses n) = ⊥

-- entries of the hall have run since, and nothing else has happened there; its events are a trail
pub record HasGoneOn (before after : Chronicle) : Type 0 where
  pub grown : HasGrown before after
  pub only : AllByRecursion IsOfRun grown.more
  pub trail : HasTrail after
