use Rattle.bl_disk.proofs.Moving.{none-cut}
use Rattle.bl_disk.specs.Moments.{IsCutting}
use Rattle.bl_record_tests.proofs.Unmoved.{unmoved}
use Rattle.bl_record_tests.specs.OfFaulty.{faulty_now}
use Rattle.bl_record_tests.proofs.faulty.FaultyDevice.cut.Goals as goal

pub returns-then-fails-clause-moments : goal.returns-then-fails-clause-moments
returns-then-fails-clause-moments c =
    let stands = faulty_now c.args.self.now in
    unmoved c.args.self.now c.fails.new.self (IsCutting stands c.args.len) c.fails.ensures.memory (none-cut stands c.args.len)
