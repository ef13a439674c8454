use Rattle.std.proofs.Common.{refl, sym, subst}
use Rattle.bl_disk_tests.specs.InMemory.{file_of, memory_now, memory_past}
use Rattle.bl_disk.specs.Moments.{IsCutting}
use Rattle.bl_disk.proofs.Moving.{none-cut, all-cut}
use Rattle.bl_disk.proofs.Passing.{stays, steps}
use Rattle.bl_disk_tests.proofs.memory.MemoryDevice.cut.Goals as goal

pub returns-in_err-next-clause-moments : goal.returns-in_err-next-clause-moments
returns-in_err-next-clause-moments c =
    stays memory_now memory_past c.args.self.now c.args.self.now (IsCutting (memory_now c.args.self.now) c.args.len) refl (none-cut (memory_now c.args.self.now) c.args.len)

pub returns-in_err-turn-clause-moments : goal.returns-in_err-turn-clause-moments
returns-in_err-turn-clause-moments c =
    stays memory_now memory_past c.args.self.now c.turn.new.self (IsCutting (memory_now c.args.self.now) c.args.len) c.in_err-turn.ensures.failed_past
    (subst (IsCutting (memory_now c.args.self.now) c.args.len) (sym c.in_err-turn.ensures.failed_now) (none-cut (memory_now c.args.self.now) c.args.len))

pub returns-clause-moments : goal.returns-clause-moments
returns-clause-moments c =
    steps memory_now memory_past c.args.self.now c.turn.new.self (IsCutting (memory_now c.args.self.now) c.args.len) c.in_ok-turn.ensures.past
    (none-cut (memory_now c.args.self.now) c.args.len)
    (subst (IsCutting (memory_now c.args.self.now) c.args.len) (sym c.in_ok-turn.ensures.now)
    (all-cut (memory_now c.args.self.now) (file_of c.in_ok-next.next) c.args.len c.in_ok-next.ensures.kept c.in_ok-next.ensures.both))
