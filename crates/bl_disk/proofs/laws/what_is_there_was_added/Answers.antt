use Rattle.bl_disk.proofs.Living.{parts}
use Rattle.bl_disk.proofs.laws.what_is_there_was_added.Goals as goal

pub returns : goal.returns
returns c = parts
