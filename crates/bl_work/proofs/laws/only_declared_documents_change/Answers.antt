use Rattle.bl_work.proofs.Altered.{unaltered-stays}
use Rattle.bl_work.proofs.laws.only_declared_documents_change.Goals as goal

pub returns : goal.returns
returns c = unaltered-stays
