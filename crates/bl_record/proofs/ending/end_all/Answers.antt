use Rattle.std.specs.Prelude.{OnOk, Result, Ok, Err}
use Rattle.bl_hall.specs.Chronicle.{Chronicle}
use Rattle.bl_record.proofs.Going.{and-on}
use Rattle.bl_record.proofs.ending.end_all.Goals as goal
use Rattle.bl_record.specs.Ending.{HasGoneOn}

on-then : {A E : Type 0} (r : Result A E) (a b c : Chronicle) → HasGoneOn a b → OnOk r (HasGoneOn b c) → OnOk r (HasGoneOn a c)
on-then (Ok v) a b c first second = and-on a b c first second
on-then (Err e) a b c first second = tt

pub returns-clause-on : goal.returns-clause-on
returns-clause-on c = on-then c.run_waiting.result c.args.hall.now c.end_running.new.hall c.run_waiting.new.hall c.in_ok-end_running.ensures.on c.run_waiting.ensures.on
