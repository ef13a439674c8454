use Rattle.bl_disk.proofs.Living.{begins, begins-all}
use Rattle.bl_disk.proofs.laws.what_was_kept_is_there.Goals as goal

pub returns : goal.returns
returns c from lives are = (begins from lives are, begins-all from lives are)
