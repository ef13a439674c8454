use Rattle.std.proofs.Common.{sym, subst}
use Rattle.bl_disk.proofs.Fronts.{itself}
use Rattle.bl_disk_tests.specs.InMemory.{file_of, memory_now, memory_past}
use Rattle.bl_disk.specs.Moments.{IsSyncing}
use Rattle.bl_disk.proofs.Moving.{all-synced}
use Rattle.bl_disk.proofs.Passing.{stays, steps}
use Rattle.bl_disk_tests.proofs.memory.MemoryDevice.sync.Goals as goal

pub returns-in_err-turn-clause-moments : goal.returns-in_err-turn-clause-moments
returns-in_err-turn-clause-moments c =
    stays memory_now memory_past c.args.self.now c.turn.new.self (IsSyncing (memory_now c.args.self.now)) c.in_err-turn.ensures.failed_past
    (subst (IsSyncing (memory_now c.args.self.now)) (sym c.in_err-turn.ensures.failed_now) (itself (memory_now c.args.self.now).kept))

pub returns-clause-moments : goal.returns-clause-moments
returns-clause-moments c =
    steps memory_now memory_past c.args.self.now c.turn.new.self (IsSyncing (memory_now c.args.self.now)) c.in_ok-turn.ensures.past
    (itself (memory_now c.args.self.now).kept)
    (subst (IsSyncing (memory_now c.args.self.now)) (sym c.in_ok-turn.ensures.now)
    (all-synced (memory_now c.args.self.now) (file_of c.in_ok-next.next) c.in_ok-next.ensures.kept))
