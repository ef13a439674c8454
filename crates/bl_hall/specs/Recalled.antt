-- What a hall is, by what it keeps: the works of lines stand in the core's order alone.
use Rattle.std.specs.Prelude.{ℕ, suc, List, [], ◌∷◌}
use Rattle.bl_work.specs.declared.work.Work.{Work}
use Rattle.bl_work.specs.declared.work.Work.TheVariants as works
use Rattle.bl_order.specs.Order.{Entry, Line, Child}
use Rattle.bl_order.specs.Machine.{Event, Opens, Admits, Starts, Ends, Loses}
use Rattle.bl_hall.specs.declared.event.Event as kept
use Rattle.bl_hall.specs.declared.event.Event.TheVariants as kept_as
use Rattle.bl_hall.specs.declared.hall.Hall.TheInside.{Inside}
use Rattle.bl_hall.specs.Chronicle.{Chronicle}

-- the works of the lines of an order, in order
abbrev pub works_of : List Entry → List Work
works_of [] = []
works_of (Line session ordinal subject work ∷ order) = work ∷ works_of order
works_of (Child parent which ∷ order) = works_of order

-- how many lines were admitted
abbrev pub lines_in : List kept.Event → ℕ
lines_in [] = 0
lines_in (kept_as.Open subject ∷ events) = lines_in events
lines_in (kept_as.Line session ordinal ∷ events) = suc (lines_in events)
lines_in (kept_as.Start n ∷ events) = lines_in events
lines_in (kept_as.End n ∷ events) = lines_in events
lines_in (kept_as.Lost n ∷ events) = lines_in events

-- the work of the next line; a script without behaviours stands where there is none
abbrev pub next_work : List Work → Work
next_work [] = works.Behaviour []
next_work (work ∷ rest) = work

abbrev pub later_works : List Work → List Work
later_works [] = []
later_works (work ∷ rest) = rest

-- the events, each line's with its work
abbrev pub recalled : List Work → List kept.Event → List Event
recalled lines [] = []
recalled lines (kept_as.Open subject ∷ events) = Opens subject ∷ recalled lines events
recalled lines (kept_as.Line session ordinal ∷ events) = Admits session ordinal (next_work lines) ∷ recalled
    (later_works lines) events
recalled lines (kept_as.Start n ∷ events) = Starts n ∷ recalled lines events
recalled lines (kept_as.End n ∷ events) = Ends n ∷ recalled lines events
recalled lines (kept_as.Lost n ∷ events) = Loses n ∷ recalled lines events

abbrev pub chronicle_of : Inside → Chronicle
chronicle_of h = record {
  setup = h.core.setup;
  limit = h.core.limit;
  trail = recalled
      (works_of h.core.order) h.events.items;
}
