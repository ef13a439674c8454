use Rattle.bl_hall.specs.Chronicle.{state_now}
use Rattle.bl_record.proofs.ending.run_waiting.Given as goal
use Rattle.bl_record.specs.Ending.{HasGoneOn}
use Rattle.bl_record.specs.Nearing.{IsIdle, events_left}

abbrev pub invariant-loop-n : goal.invariant-loop-n
invariant-loop-n l = HasGoneOn l.fn.hall l.hall × IsIdle (state_now l.hall)

abbrev pub decreases-loop-n : goal.decreases-loop-n
decreases-loop-n l = events_left l.hall
