use Rattle.bl_disk_tests.proofs.InMemoryLemmas.{one-file, pushed}
use Rattle.bl_disk_tests.proofs.memory.Memory.turn.Goals as goal

pub returns-clause-past : goal.returns-clause-past
returns-clause-past c =
    pushed c.args.self.now.past.items c.push.new.self.items c.in_ok-copy.field-0 c.args.self.now.stands c.in_ok-push.ensures.items
    (one-file c.in_ok-copy.field-0 c.args.self.now.stands c.in_ok-copy.ensures.kept c.in_ok-copy.ensures.loose)
