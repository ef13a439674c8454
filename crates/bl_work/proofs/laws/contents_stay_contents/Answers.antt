use Rattle.bl_work.proofs.Contents.{stays_content}
use Rattle.bl_work.proofs.laws.contents_stay_contents.Goals as goal

pub returns : goal.returns
returns c = stays_content
