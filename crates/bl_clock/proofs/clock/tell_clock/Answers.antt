use Rattle.bl_wire.proofs.PutLaws.{puts-append}
use Rattle.bl_clock.proofs.clock.tell_clock.Goals as goal

pub returns : goal.returns
returns g c = puts-append _ _ _ _ _ c.tell_if.ensures c.tell_if-2.ensures
