use Rattle.bl_order.proofs.Absent.{used-present}
use Rattle.bl_order.proofs.laws.used_documents_are_present.Goals as goal

pub returns : goal.returns
returns c = used-present
