use Rattle.std.proofs.Common.{List, ap, sym, subst}
use Rattle.bl_queue.specs.Entries.{Entry}
use Rattle.bl_queue.specs.Queued.{Roster}
use Rattle.bl_queue.specs.Rooms.{AreRunning}
use Rattle.bl_queue.proofs.Fresh.{fresh_kept}
use Rattle.bl_queue.proofs.Running.{fresh_running}
use Rattle.bl_queue.proofs.queues.Queues.new.Goals as goal

pub invariant_of-result : goal.invariant_of-result
invariant_of-result c = record {
  kept = fresh_kept c.args.cowns c.args.limit c.in_ok-roster.roster c.requires.cowns c.requires.limit c.in_ok-roster.ensures;
  running = subst (λ (es : List Entry). AreRunning es c.args.limit c.in_ok-running.running) (sym (ap (λ (r : Roster). r.entries) c.in_ok-roster.ensures))
      (fresh_running c.args.limit c.in_ok-running.running c.in_ok-running.ensures.room c.in_ok-running.ensures.none);
}
