use Rattle.bl_record_tests.proofs.Growing.{continued}
use Rattle.bl_record_tests.proofs.grown.open_bob.Goals as goal

pub returns : goal.returns
returns g c = continued c.args.hall.now c.open.new.self c.open.ensures.continues
