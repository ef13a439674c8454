use Rattle.bl_order.proofs.Absent.{absent-empty, absent-empty_now}
use Rattle.bl_order.proofs.laws.absent_documents_are_empty.Goals as goal

pub returns-clause-places : goal.returns-clause-places
returns-clause-places c = absent-empty

pub returns-clause-now : goal.returns-clause-now
returns-clause-now c = absent-empty_now
