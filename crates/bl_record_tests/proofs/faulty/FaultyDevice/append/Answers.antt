use Rattle.bl_disk.proofs.Moving.{none-added}
use Rattle.bl_disk.specs.Moments.{IsAdding}
use Rattle.bl_record_tests.proofs.Unmoved.{unmoved}
use Rattle.bl_record_tests.specs.OfFaulty.{faulty_now}
use Rattle.bl_record_tests.proofs.faulty.FaultyDevice.append.Goals as goal

pub returns-then-fails-clause-moments : goal.returns-then-fails-clause-moments
returns-then-fails-clause-moments c =
    let stands = faulty_now c.args.self.now in
    unmoved c.args.self.now c.fails.new.self (IsAdding stands c.args.text.now) c.fails.ensures.memory (none-added stands c.args.text.now)
