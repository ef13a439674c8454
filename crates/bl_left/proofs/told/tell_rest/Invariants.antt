use Rattle.std.proofs.Common.{◌≡◌, length}
use Rattle.std.specs.Prelude.{map}
use Rattle.bl_replay.specs.Fed.{IsFed}
use Rattle.bl_replay.specs.Kept.{entry_in}
use Rattle.bl_replay.specs.Marks.{lost_later}
use Rattle.bl_left.proofs.told.tell_rest.Given as goal

abbrev pub invariant-loop : goal.invariant-loop
invariant-loop l =
    IsFed l.fn.monitor.setup (lost_later l.marks) (map entry_in l.places) l.monitor l.answers.items × (l.monitor.setup ≡ l.fn.monitor.setup) × (length l.answers.items ≡ l.counter)
