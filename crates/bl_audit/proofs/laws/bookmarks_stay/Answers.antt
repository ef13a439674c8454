use Rattle.bl_audit.proofs.Staying.{stays}
use Rattle.bl_audit.proofs.laws.bookmarks_stay.Goals as goal

pub returns : goal.returns
returns c before after bookmark grown is = stays before after bookmark grown is
