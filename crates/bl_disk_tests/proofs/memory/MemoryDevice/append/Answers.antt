use Rattle.std.proofs.Common.{sym, subst}
use Rattle.bl_disk_tests.specs.InMemory.{file_of, memory_now, memory_past}
use Rattle.bl_disk.specs.Moments.{IsAdding}
use Rattle.bl_disk.proofs.Moving.{none-added, all-added}
use Rattle.bl_disk.proofs.Passing.{stays, steps}
use Rattle.bl_disk_tests.proofs.memory.MemoryDevice.append.Goals as goal

pub returns-in_err-turn-clause-moments : goal.returns-in_err-turn-clause-moments
returns-in_err-turn-clause-moments c =
    stays memory_now memory_past c.args.self.now c.turn.new.self (IsAdding (memory_now c.args.self.now) c.args.text.now) c.in_err-turn.ensures.failed_past
    (subst (IsAdding (memory_now c.args.self.now) c.args.text.now) (sym c.in_err-turn.ensures.failed_now) (none-added (memory_now c.args.self.now) c.args.text.now))

pub returns-clause-moments : goal.returns-clause-moments
returns-clause-moments c =
    steps memory_now memory_past c.args.self.now c.turn.new.self (IsAdding (memory_now c.args.self.now) c.args.text.now) c.in_ok-turn.ensures.past
    (none-added (memory_now c.args.self.now) c.args.text.now)
    (subst (IsAdding (memory_now c.args.self.now) c.args.text.now) (sym c.in_ok-turn.ensures.now)
    (all-added (memory_now c.args.self.now) (file_of c.in_ok-next.next) c.args.text.now c.in_ok-next.ensures.kept c.in_ok-next.ensures.loose))
