use Rattle.bl_work.proofs.Contents.{is_added}
use Rattle.bl_work.proofs.laws.additions_are_cut.Goals as goal

pub returns : goal.returns
returns c = is_added
