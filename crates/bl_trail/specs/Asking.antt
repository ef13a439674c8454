-- What the text of an event asks.
use Rattle.std.specs.Prelude.{[], drop, slice_index_or}
use Rattle.bl_write.specs.CanonicalLine.{canonical_line}
use Rattle.bl_work.specs.declared.asked.Line.TheVariants as line
use Rattle.bl_order.specs.Machine.{State, Event, Opens, Admits, Starts, Ends, Loses, past_at}
use Rattle.bl_trail.specs.Asks.{Asked, opens, admits, starts, ends, loses}
use Rattle.bl_trail.specs.EventText.{start_words}

abbrev pub asked_for : State → Event → Asked
asked_for x (Opens subject) = opens (slice_index_or x.setup.names.subjects subject [])
asked_for x (Admits session ordinal work) = admits session ordinal (canonical_line x.setup.names (line.Work work))
asked_for x (Starts n) = starts n (drop 1 (start_words x.setup.names (past_at x n).answer))
asked_for x (Ends n) = ends n
asked_for x (Loses n) = loses n
