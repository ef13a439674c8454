use Rattle.std.proofs.Common.{◌≡◌, length}
use Rattle.std.specs.Vec.Iter.{into_iter_items, into_iter_len}
use Rattle.bl_hall.specs.Chronicle.{state_now}
use Rattle.bl_rebuild.specs.Unfinished.{loans_now}
use Rattle.bl_record.proofs.ending.end_running.Given as goal
use Rattle.bl_record.specs.Ending.{HasGoneOn}

-- what is left in the iterator is what still runs
abbrev pub invariant-loop-unfinished : goal.invariant-loop-unfinished
invariant-loop-unfinished l =
    HasGoneOn l.fn.hall l.hall
    × (into_iter_len l.unfinished-iterator ≡ length (into_iter_items l.unfinished-iterator))
    × (into_iter_items l.unfinished-iterator ≡ loans_now (state_now l.hall))
